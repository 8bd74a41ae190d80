-- Objects that are added to a heap one after another.
use Rattle.std.specs.Prelude.{◌≡◌, ℕ, ◌+◌, ◌<◌, ◌≤◌, List, ◌++◌, length, slice_index, slice_index_or, slice_set, sum_by, Some}
use Rattle.ap_base.specs.declared.reference.Ref.{Ref}
use Rattle.graph_model.specs.declared.types.Obj.{Obj}
use Rattle.graph_model.specs.declared.types.Shape.{Shape}
use Rattle.graph_model.specs.Heaps.{fresh_values, no_shape}
use Rattle.plain_model.specs.Limits.{words_of}
use Rattle.shared_objects.specs.Shown.{IfNumber, object_in}
use Rattle.shared_objects.specs.Changes.{GoesOn}
use Rattle.one_space.specs.Making.{with_chars}
use Rattle.twin_forms.specs.Table.{Entry, entry}
use Rattle.two_spaces.specs.Seen.{Spaces, shown_of}
use Rattle.two_spaces.specs.Whole.{Stands, SameClasses}
use Rattle.first_spaces.specs.Beginnings.{HasNumbers}

-- a new object of a class with so many slots
abbrev pub fresh_object : List Shape → (class slots : ℕ) → Obj
fresh_object shapes class slots =
    record { shape = class; values = fresh_values (slice_index_or shapes class no_shape) slots }

-- A volatile object of a class's shape.
pub record IsNew (classes numbers : List ℕ) (e : Entry) : Type 0 where
  pub stage : e.stage ≡ 0
  pub owner : e.owner ≡ 0
  pub shape : e.shape ≡ slice_index numbers (slice_index classes e.shape)

-- What holds numbers in objects from this one on has words of such ones.
abbrev pub HaveNumbers : ℕ → Spaces → List Entry → Type 0
HaveNumbers from s es = (n : ℕ) → from ≤ n → n < length es → HasNumbers s (entry es n)

-- The table goes on with such objects. Words of numbers still are, and those of the new ones are too.
pub record Lengthens (before : Spaces) (es : List Entry) (now : Spaces) (es' : List Entry) : Type 0 where
  pub long : length es ≤ length es'
  pub old : (n : ℕ) → n < length es → entry es' n ≡ entry es n
  pub new : (n : ℕ) → length es ≤ n → n < length es' → IsNew before.classes before.numbers (entry es' n)
  pub numbers : (from : ℕ) → HaveNumbers from before es → HaveNumbers from now es'

-- What objects and stores to them leave as it is.
pub record Spares (before now : Spaces) : Type 0 where
  pub goes_on : GoesOn (shown_of before) (shown_of now)
  pub memory : now.twin.memory ≡ before.twin.memory
  pub classes : SameClasses before now
  pub statics : now.statics ≡ before.statics

-- These objects were added, and nothing else.
pub record Grows (made : List Obj) (before now : Spaces) : Type 0 where
  pub spares : Spares before now
  pub objects : (shown_of now).objects ≡ (shown_of before).objects ++ made
  pub left : before.twin.space.left ≡ now.twin.space.left + sum_by words_of made
  pub table : (es : List Entry) → Stands before es
      → (es' : List Entry) × Stands now es' × Lengthens before es now es'

-- By each table, words of numbers still are.
abbrev pub KeepsNumbers : Spaces → Spaces → Type 0
KeepsNumbers before now = (es : List Entry) → Stands before es
    → (from : ℕ) → HaveNumbers from before es → HaveNumbers from now es

-- The first slots of the object have these chars, and nothing else has changed.
pub record PutsChars (r : Ref) (chars : List ℕ) (before now : Spaces) : Type 0 where
  pub spares : Spares before now
  pub objects : (n : ℕ) → (shown_of before).number r ≡ Some n
      → (shown_of now).objects ≡ slice_set (shown_of before).objects n
      (with_chars (object_in (shown_of before) n) chars)
  pub left : now.twin.space.left ≡ before.twin.space.left
  pub table : (es : List Entry) → Stands before es → Stands now es
  pub numbers : KeepsNumbers before now

-- The heap is whole, and the object lies in volatile memory alone.
pub record IsYoung (s : Spaces) (r : Ref) : Type 0 where
  pub es : List Entry
  pub stands : Stands s es
  pub young : IfNumber ((shown_of s).number r) (λ n. (entry es n).stage ≡ 0)
