-- A heap as it begins is whole.
use Rattle.std.specs.Prelude.{◌≡◌, ◌⊎◌, ℕ, ◌*◌, ◌<◌, ◌≤◌, List, [], length, map, slice_index, slice_index_or}
use Rattle.ap_base.specs.declared.reference.Ref.TheVariants.{Null as NoRef}
use Rattle.ap_base.specs.declared.reference.Item.{Item}
use Rattle.ap_base.specs.declared.reference.Item.TheVariants.{Int as IntItem, Long as LongItem, Ref as RefItem}
use Rattle.graph_model.specs.declared.types.Shape.{Shape}
use Rattle.image_layout.specs.Places.{root_slots}
use Rattle.twin_forms.specs.Sights.{Twin, view_of}
use Rattle.twin_forms.specs.Table.{Lies}
use Rattle.twin_heap.specs.Here.{kinds_of, opened, opening}
use Rattle.two_spaces.specs.declared.spaces.Static.{Static}
use Rattle.two_spaces.specs.declared.spaces.Static.TheVariants.{Beside, Root}
use Rattle.two_spaces.specs.Seen.{Spaces, root_word}
use Rattle.two_spaces.specs.Whole.{AreClasses, IsAlone, Stands, no_static}

-- A static field beside the heap holds no object yet.
abbrev pub HoldsNone : Item → Type 0
HoldsNone (IntItem i) = Unit {0}
HoldsNone (LongItem i) = Unit {0}
HoldsNone (RefItem r) = r ≡ NoRef

-- A root slot holds null, or one of the objects of the image.
abbrev pub IsFirstWord : List ℕ → (word : ℕ) → Type 0
IsFirstWord lines word = (word ≡ 0) ⊎ ((n : ℕ) × (n < length lines) × (word ≡ 2 * slice_index lines n))

abbrev pub IsFirstStatic : Twin → List ℕ → Static → Type 0
IsFirstStatic t lines (Beside item) = HoldsNone item
IsFirstStatic t lines (Root slot) = (slot < root_slots) × IsFirstWord lines (root_word (view_of t) slot)

-- A twin heap as `new` makes it of the objects that begin at these lines, each of one of the heap's shapes, with tables
-- of classes and static fields.
pub record Begins (s : Spaces) (heap_shapes : List Shape) (lines : List ℕ) : Type 0 where
  -- what `new` says of it
  pub valid : Lies (view_of s.twin) (opening s.twin.memory lines)
  pub kinds : s.twin.marks.kinds ≡ map kinds_of heap_shapes
  -- No object begins in a line of a root slot, and each is of a class.
  pub behind : (n : ℕ) → n < length lines → 33 ≤ slice_index lines n
  pub classed : (n : ℕ) → n < length lines
      → slice_index s.classes (opened s.twin.memory (slice_index lines n)).shape < length s.shapes
  pub classes : AreClasses s.shapes (map kinds_of heap_shapes) s.classes s.numbers
  pub statics : (f : ℕ) → f < length s.statics
      → IsFirstStatic s.twin lines (slice_index_or s.statics f no_static)
  pub alone : (f : ℕ) → f < length s.statics → IsAlone s.statics f (slice_index_or s.statics f no_static)

abbrev pub BeginningsStand : Type 0
BeginningsStand = (s : Spaces) (heap_shapes : List Shape) (lines : List ℕ) → Begins s heap_shapes lines
    → Stands s (opening s.twin.memory lines)

-- ---- the plainest tables

-- by each number the number itself
pub record AreSame (count : ℕ) (table : List ℕ) : Type 0 where
  pub long : length table ≡ count
  pub same : (k : ℕ) → k < count → slice_index table k ≡ k

-- Where the heap's shapes are those of the classes, each class has its own.
abbrev pub OwnShapesAreClasses : Type 0
OwnShapesAreClasses = (shapes : List Shape) (classes numbers : List ℕ) → AreSame (length shapes) classes
    → AreSame (length shapes) numbers → AreClasses shapes (map kinds_of shapes) classes numbers

-- Such a heap, without static fields, is whole, of whichever objects it begins.
abbrev pub OwnShapesStand : Type 0
OwnShapesStand = (t : Twin) (shapes : List Shape) (classes numbers lines : List ℕ)
    → Lies (view_of t) (opening t.memory lines) → t.marks.kinds ≡ map kinds_of shapes
    → ((n : ℕ) → n < length lines → 33 ≤ slice_index lines n)
    → AreSame (length shapes) classes → AreSame (length shapes) numbers
    → Stands (record { twin = t; shapes = shapes; classes = classes; numbers = numbers; statics = [] })
    (opening t.memory lines)
