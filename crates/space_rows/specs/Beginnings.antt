-- A world as it begins: its heap has one object, an array of nine ints that is in the image from the start.
use Rattle.std.specs.Prelude.{◌≡◌, ℕ, ◌<◌, ◌≤◌, pos, List, [], ◌∷◌, length, map, All, Some, slice_index_or}
use Rattle.ap_base.specs.declared.kind.Kind.TheVariants.{I, L}
use Rattle.ap_base.specs.declared.reference.Ref.TheVariants.{Null as NoRef}
use Rattle.ap_base.specs.declared.reference.Item.TheVariants.{Int as IntItem, Ref as RefItem}
use Rattle.graph_model.specs.Heaps.{no_shape}
use Rattle.graph_model.specs.declared.types.Shape.{Shape}
use Rattle.image_layout.specs.Places.{head_of}
use Rattle.line_memory.specs.Memory.{Memory, shown}
use Rattle.plain_model.specs.Consistent.{IsConsistent}
use Rattle.plain_model.specs.Facts.{SetFacts, classes_of, shapes_of}
use Rattle.plain_model.specs.Typed.{static_kind}
use Rattle.shared_objects.specs.declared.rest.Rest.{Rest}
use Rattle.shared_objects.specs.declared.threads.ThreadState.{ThreadState}
use Rattle.twin_forms.specs.Sights.{view_of}
use Rattle.twin_forms.specs.Table.{Lies}
use Rattle.twin_heap.specs.Here.{kinds_of, opening}
use Rattle.two_spaces.specs.declared.spaces.Static.{Static}
use Rattle.two_spaces.specs.declared.spaces.Static.TheVariants.{Beside, Root}
use Rattle.two_spaces.specs.Seen.{Spaces}
use Rattle.two_spaces.specs.Starts.{AreSame}

-- Such an array begins at the first line of objects, and root slot 5 is null.
pub record HasArray (m : Memory) (shape : ℕ) : Type 0 where
  pub long : 32768 ≤ m.size
  pub few : m.size ≤ 4194304
  pub head : shown m 20577 0 ≡ head_of shape 9
  pub root : shown m 1 5 ≡ 0

-- The type of arrays of ints has this number.
pub record HasInts (shapes : List Shape) (shape : ℕ) : Type 0 where
  pub few : length shapes ≤ 4294967296
  pub below : shape < length shapes
  pub ints : (slice_index_or shapes shape no_shape).element ≡ Some I

-- a reference, and an int
pub record HasStatics (set : SetFacts) : Type 0 where
  pub two : length set.statics ≡ 2
  pub first : static_kind set 1 ≡ L
  pub second : static_kind set 2 ≡ I

-- the static fields: System.out, a durable root, and a number
abbrev pub first_statics : List Static
first_statics = Beside (RefItem NoRef) ∷ Root 5 ∷ Beside (IntItem (pos 0)) ∷ []

-- No monitor is held, and no region has begun.
pub record IsRested (set : SetFacts) (rest : Rest) : Type 0 where
  pub classes : length rest.classes.items ≡ length (classes_of set)
  pub monitors : rest.monitors ≡ []
  pub threads : All (λ (t : ThreadState). t.depth ≤ 0) rest.threads

pub record IsFirst (set : SetFacts) (s : Spaces) (rest : Rest) (shape : ℕ) : Type 0 where
  pub consistent : IsConsistent set
  pub shapes : s.shapes ≡ shapes_of set
  pub kinds : s.twin.marks.kinds ≡ map kinds_of s.shapes
  pub classes : AreSame (length s.shapes) s.classes
  pub numbers : AreSame (length s.shapes) s.numbers
  pub valid : Lies (view_of s.twin) (opening s.twin.memory (20577 ∷ []))
  pub array : HasArray s.twin.memory shape
  pub ints : HasInts s.shapes shape
  pub statics : s.statics ≡ first_statics
  pub kept : HasStatics set
  pub rested : IsRested set rest
