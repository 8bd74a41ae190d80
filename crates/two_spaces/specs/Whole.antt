-- When a heap over two spaces is whole, what its calls need, and what stores and new objects make of it.
use Rattle.std.specs.Prelude.{◌≡◌, ◌≢◌, ℕ, ◌+◌, ◌%◌, ◌<◌, ◌≤◌, pos, List, [], ◌∷◌, ◌++◌, length, slice_index, slice_index_or}
use Rattle.std.specs.Prelude.{slice_set}
use Rattle.std.specs.Int.{w32, w64, cast_unsigned}
use Rattle.ap_base.specs.declared.place.Place.{Place}
use Rattle.ap_base.specs.declared.place.Place.TheVariants as place
use Rattle.ap_base.specs.declared.reference.Ref.{Ref}
use Rattle.ap_base.specs.declared.reference.Ref.TheVariants.{Null as NoRef, Persistent, Volatile}
use Rattle.ap_base.specs.declared.reference.Item.{Item}
use Rattle.ap_base.specs.declared.reference.Item.TheVariants.{Int as IntItem, Long as LongItem, Ref as RefItem}
use Rattle.ap_base.specs.References.{reference_word}
use Rattle.ap_base.specs.declared.kind.Kind.{Kind}
use Rattle.one_space.specs.Layout.{HasItemKind}
use Rattle.image_layout.specs.Places.{root_slots, slot_line, slot_word}
use Rattle.line_memory.specs.Memory.{IsResident}
use Rattle.graph_model.specs.declared.types.Shape.{Shape}
use Rattle.graph_model.specs.Heaps.{no_shape}
use Rattle.twin_forms.specs.declared.kinds.ShapeKinds.{ShapeKinds}
use Rattle.twin_forms.specs.Sights.{view_of, no_kinds}
use Rattle.twin_forms.specs.Table.{Entry, entry, Names, IsRef, Lies, HasCopied, line_of}
use Rattle.twin_forms.specs.Moves.{Added, Stored, fresh}
use Rattle.twin_heap.specs.Here.{IsHere, StoresAt, kinds_of}
use Rattle.two_spaces.specs.declared.spaces.Static.{Static}
use Rattle.two_spaces.specs.declared.spaces.Static.TheVariants.{Beside, Root}
use Rattle.two_spaces.specs.Seen.{Spaces, current_word, root_word}

-- ---- references

-- an object to which the word refers
abbrev pub IsNamed : List Entry → ℕ → Type 0
IsNamed es w = (n : ℕ) × (n < length es) × Names (entry es n) w

-- null, or the reference of an object
abbrev pub IsTo : List Entry → Ref → Type 0
IsTo es NoRef = Unit {0}
IsTo es (Persistent line) = IsNamed es (reference_word (Persistent line))
IsTo es (Volatile at) = IsNamed es (reference_word (Volatile at))

abbrev pub IsItem : List Entry → Item → Type 0
IsItem es (IntItem i) = Unit {0}
IsItem es (LongItem i) = Unit {0}
IsItem es (RefItem r) = IsTo es r

-- The object to which it refers, if it refers to one, has a copy in lines that is current.
abbrev pub HasLine : List Entry → Item → Type 0
HasLine es (IntItem i) = Unit {0}
HasLine es (LongItem i) = Unit {0}
HasLine es (RefItem r) =
    (m : ℕ) → m < length es → Names (entry es m) (reference_word r) → 1 < (entry es m).stage

-- The word that a place keeps of the item: of a reference, that of its object's current copy.
abbrev pub IsWordOf : List Entry → Item → ℕ → Type 0
IsWordOf es (IntItem i) w = w ≡ cast_unsigned w32 i
IsWordOf es (LongItem i) w = w ≡ cast_unsigned w64 i
IsWordOf es (RefItem NoRef) w = w ≡ 0
IsWordOf es (RefItem (Persistent line)) w =
    (m : ℕ) → m < length es → Names (entry es m) (reference_word (Persistent line))
    → w ≡ current_word (entry es m)
IsWordOf es (RefItem (Volatile at)) w =
    (m : ℕ) → m < length es → Names (entry es m) (reference_word (Volatile at))
    → w ≡ current_word (entry es m)

-- the item is a number of this kind
abbrev pub IsNumberOf : Kind → Item → Type 0
IsNumberOf kind (IntItem i) = HasItemKind kind (IntItem i)
IsNumberOf kind (LongItem i) = HasItemKind kind (LongItem i)
IsNumberOf kind (RefItem r) = ⊥

-- ---- whole heaps

-- Each shape of the heap that is a class's has its kinds, and each class has one.
pub record AreClasses (shapes : List Shape) (kinds : List ShapeKinds) (classes numbers : List ℕ) : Type 0 where
  pub long : length classes ≡ length kinds
  pub kinds_are : (k : ℕ) → k < length classes → slice_index classes k < length shapes
      → slice_index_or kinds k no_kinds ≡ kinds_of (slice_index_or shapes (slice_index classes k) no_shape)
  pub all : length numbers ≡ length shapes
  pub within : (c : ℕ) → c < length numbers → slice_index numbers c < length kinds
  pub back : (c : ℕ) → c < length numbers → slice_index classes (slice_index numbers c) ≡ c

abbrev pub no_static : Static
no_static = Beside (IntItem (pos 0))

-- It holds null, an object, or no reference. What stands in a root slot is null or a line's word.
abbrev pub IsStatic : Spaces → List Entry → Static → Type 0
IsStatic s es (Beside item) = IsItem es item
IsStatic s es (Root slot) = (slot < root_slots) × (root_word (view_of s.twin) slot % 2 ≡ 0)
    × IsRef es (root_word (view_of s.twin) slot)

-- No other static field lies in the slot.
abbrev pub IsAlone : List Static → ℕ → Static → Type 0
IsAlone statics f (Beside item) = Unit {0}
IsAlone statics f (Root slot) =
    (g : ℕ) → g < length statics → g ≢ f → slice_index_or statics g no_static ≢ Root slot

-- The heap is whole, and this table says where its objects lie.
pub record Stands (s : Spaces) (es : List Entry) : Type 0 where
  pub lies : Lies (view_of s.twin) es
  -- No line of the superblock or a root slot is one of an object. Lines of the directory and of logs may be, as far as this
  -- says: the layer above keeps objects out of them.
  pub behind : (n : ℕ) → n < length es → 0 < (entry es n).stage → 33 ≤ (entry es n).line
  pub classes : AreClasses s.shapes s.twin.marks.kinds s.classes s.numbers
  pub classed : (n : ℕ) → n < length es → slice_index s.classes (entry es n).shape < length s.shapes
  pub statics : (f : ℕ) → f < length s.statics → IsStatic s es (slice_index_or s.statics f no_static)
  pub alone : (f : ℕ) → f < length s.statics → IsAlone s.statics f (slice_index_or s.statics f no_static)

abbrev pub IsWhole : Spaces → Type 0
IsWhole s = (es : List Entry) × Stands s es

-- ---- what is at hand, and what may be stored

-- The heap is whole, and the lines of object n's head and of its slot, if it has lines, are resident.
abbrev pub IsHereIn : Spaces → ℕ → ℕ → Type 0
IsHereIn s n i = (es : List Entry) × Stands s es × IsHere s.twin.memory (entry es n) i

abbrev pub HasResident : Spaces → Static → Type 0
HasResident s (Beside item) = Unit {0}
HasResident s (Root slot) = IsResident s.twin.memory (slot_line slot)

-- The heap is whole, and the line of the static field, if it lies in one, is resident.
abbrev pub IsStaticHereIn : Spaces → ℕ → Type 0
IsStaticHereIn s f = (es : List Entry) × Stands s es × HasResident s (slice_index_or s.statics f no_static)

abbrev pub NeedsLine : Spaces → List Entry → Place → Type 0
NeedsLine s es (place.Slot n i) = (n < length es) × HasCopied (entry es n) (line_of i)
NeedsLine s es (place.Static f) = (slot : ℕ) × (slice_index_or s.statics f no_static ≡ Root slot)

-- A root slot, and a line that has been copied, keep line's words alone.
abbrev pub MayStoreIn : Spaces → Place → Item → Type 0
MayStoreIn s p item = (es : List Entry) → Stands s es → NeedsLine s es p → HasLine es item

-- ---- what becomes of the heap

-- The heap's shapes and the classes are as they were.
pub record SameClasses (s now : Spaces) : Type 0 where
  pub shapes : now.shapes ≡ s.shapes
  pub classes : now.classes ≡ s.classes
  pub numbers : now.numbers ≡ s.numbers
  pub kinds : now.twin.marks.kinds ≡ s.twin.marks.kinds

-- The slot has another word, in the copy that is current and in its copied line, and nothing else has changed.
pub record SlotStored (s : Spaces) (es : List Entry) (n i w : ℕ) (now : Spaces) : Type 0 where
  pub stands : Stands now es
  pub stored : Stored (view_of s.twin) (view_of now.twin) es n i w
  pub line : HasCopied (entry es n) (line_of i)
      → StoresAt ((entry es n).line + line_of i) ((1 + i) % 8) w s.twin.memory now.twin.memory
  pub same : (HasCopied (entry es n) (line_of i) → ⊥) → now.twin.memory ≡ s.twin.memory
  pub marks : now.twin.marks ≡ s.twin.marks
  pub classes : SameClasses s now
  pub statics : now.statics ≡ s.statics

-- The word of the root slot is another one, and nothing else has changed.
pub record RootStored (s : Spaces) (es : List Entry) (slot w : ℕ) (now : Spaces) : Type 0 where
  pub stands : Stands now es
  pub line : StoresAt (slot_line slot) (slot_word slot) w s.twin.memory now.twin.memory
  pub space : now.twin.space ≡ s.twin.space
  pub marks : now.twin.marks ≡ s.twin.marks
  pub classes : SameClasses s now
  pub statics : now.statics ≡ s.statics

-- The field holds the item, and nothing else has changed.
pub record BesideStored (s : Spaces) (es : List Entry) (f : ℕ) (item : Item) (now : Spaces) : Type 0 where
  pub stands : Stands now es
  pub is : now ≡ record s { statics = slice_set s.statics f (Beside item) }

abbrev pub StaticStored : Spaces → List Entry → ℕ → Static → Item → Spaces → Type 0
StaticStored s es f (Beside old) item now = BesideStored s es f item now
StaticStored s es f (Root slot) item now = (w : ℕ) × IsWordOf es item w × RootStored s es slot w now

abbrev pub StoredTo : Spaces → List Entry → Place → Item → Spaces → Type 0
StoredTo s es (place.Slot n i) item now = (w : ℕ) × IsWordOf es item w × SlotStored s es n i w now
StoredTo s es (place.Static f) item now = StaticStored s es f (slice_index_or s.statics f no_static) item now

-- Whatever table says where the objects lie.
abbrev pub StoresIn : Spaces → Place → Item → Spaces → Type 0
StoresIn s p item now = (es : List Entry) → Stands s es → StoredTo s es p item now

-- One more object lies behind the words that were taken, of the shape that the heap has for its class, and all else is
-- as it was.
pub record Made (s : Spaces) (es : List Entry) (now : Spaces) : Type 0 where
  pub shape : ℕ
  pub slots : ℕ
  pub of_class : shape ≡ slice_index s.numbers (slice_index s.classes shape)
  pub stands : Stands now (es ++ fresh shape slots (length s.twin.space.words) ∷ [])
  pub added : Added shape slots (view_of s.twin) es (view_of now.twin)
  pub memory : now.twin.memory ≡ s.twin.memory
  pub classes : SameClasses s now
  pub statics : now.statics ≡ s.statics

abbrev pub MakesIn : Spaces → Spaces → Type 0
MakesIn s now = (es : List Entry) → Stands s es → Made s es now
