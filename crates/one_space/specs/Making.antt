-- The objects of the first heap, as they are made one after another.
use Rattle.std.specs.Prelude.{◌≡◌, ℕ, ◌+◌, ◌<◌, pos, List, [], ◌∷◌, ◌++◌, map, drop, length, sum_by, slice_set, Some}
use Rattle.ap_base.specs.declared.reference.Ref.TheVariants.{Volatile}
use Rattle.run_types.specs.declared.fault.Full.{Full}
use Rattle.run_types.specs.declared.fault.Which.TheVariants.{VolatileWords}
use Rattle.graph_model.specs.declared.types.Value.TheVariants.{Int}
use Rattle.graph_model.specs.declared.types.Obj.{Obj}
use Rattle.graph_model.specs.declared.types.Shape.{Shape}
use Rattle.plain_model.specs.Limits.{words_of}
use Rattle.shared_objects.specs.Shown.{object_in}
use Rattle.shared_objects.specs.Changes.{GoesOn}
use Rattle.one_space.specs.declared.space.OneSpace.{OneSpace}
use Rattle.one_space.specs.First.{index_in}
use Rattle.one_space.specs.Shows.{shown_of}

-- So many more words are taken, and shapes and static fields are as they were.
pub record TakesWords (taken : ℕ) (before now : OneSpace) : Type 0 where
  pub shapes : now.shapes ≡ before.shapes
  pub statics : now.statics.items ≡ before.statics.items
  pub words : length now.space.words ≡ length before.space.words + taken

-- One more object, whose first word is the first that wasn't taken.
pub record Adds (o : Obj) (before now : OneSpace) : Type 0 where
  pub goes_on : GoesOn (shown_of before) (shown_of now)
  pub objects : (shown_of now).objects ≡ (shown_of before).objects ++ o ∷ []
  pub number : (shown_of now).number (Volatile (length before.space.words))
      ≡ Some (length (shown_of before).objects)
  pub takes : TakesWords (words_of o) before now
  pub left : before.space.left ≡ now.space.left + words_of o

-- the object takes more words than are left
pub record CannotAdd (o : Obj) (before : OneSpace) (answer : Full) : Type 0 where
  pub full : answer ≡ record { which = VolatileWords; need = words_of o; left = before.space.left }
  pub short : before.space.left < words_of o

-- the object with these chars in its first slots
abbrev pub with_chars : Obj → List ℕ → Obj
with_chars o chars = record o { values = map (λ c. Int (pos c)) chars ++ drop (length chars) o.values }

-- The first slots of an object have these chars.
pub record PutsChars (at : ℕ) (chars : List ℕ) (before now : OneSpace) : Type 0 where
  pub goes_on : GoesOn (shown_of before) (shown_of now)
  pub objects : (n : ℕ) → (shown_of before).number (Volatile at) ≡ Some n
      → (shown_of now).objects ≡ slice_set (shown_of before).objects n
      (with_chars (object_in (shown_of before) n) chars)
  pub takes : TakesWords 0 before now
  pub left : now.space.left ≡ before.space.left

-- These objects were made, one after another, and nothing else.
pub record HasMade (words : ℕ) (given : List Shape) (made : List Obj) (heap : OneSpace) : Type 0 where
  pub shapes : heap.shapes ≡ given
  pub objects : (shown_of heap).objects ≡ made
  pub statics : heap.statics.items ≡ []
  pub taken : length heap.space.words ≡ sum_by words_of made
  pub left : heap.space.left + sum_by words_of made ≡ words
  pub places : (n : ℕ) → n < length made → (shown_of heap).number (Volatile (index_in made n)) ≡ Some n
