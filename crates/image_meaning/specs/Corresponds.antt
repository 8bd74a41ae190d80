-- When the words of an image correspond to a plain heap (JVMS 2.4, 2.5.3): a relation tells which object lies at which line. The words are of
-- this project's own format.
use Rattle.std.specs.Prelude.{◌≡◌, ◌≢◌, ◌⊎◌, ℕ, ◌+◌, ◌*◌, ◌<◌, ◌≤◌, true, List, length, map, slice_index_or}
use Rattle.ap_base.specs.declared.kind.Kind.{Kind}
use Rattle.ap_base.specs.declared.kind.Kind.TheVariants.{L}
use Rattle.ap_base.specs.declared.place.Place.TheVariants.{Static, Slot}
use Rattle.graph_model.specs.declared.types.Value.{Value}
use Rattle.graph_model.specs.declared.types.Value.TheVariants.{Int, Long, Null, Obj as Object}
use Rattle.graph_model.specs.declared.types.Shape.{Shape}
use Rattle.graph_model.specs.declared.types.Root.{Root}
use Rattle.graph_model.specs.declared.types.Heap.{Heap}
use Rattle.graph_model.specs.Heaps.{object_at, shape_at, values_of, value_at, root_values, is_kept_slot}
use Rattle.image_layout.specs.Places.{root_slots, first_object_line, lines_of}
use Rattle.image_meaning.specs.Checks.{Words}
use Rattle.image_meaning.specs.Directories.{Directory}
use Rattle.image_meaning.specs.Objects.{is_number, value_of, shape_number, shape_of, length_at, object_slot, kind_of}
use Rattle.image_meaning.specs.Objects.{holds_slots}
use Rattle.image_meaning.specs.Meaning.{root_word}

-- which object, by its number, begins at a line
abbrev pub LiesAt : Type 1
LiesAt = ℕ → ℕ → Type 0

-- the word is null, or twice a line at which the object lies
abbrev pub HoldsReference : LiesAt → ℕ → Value → Type 0
HoldsReference R w Null = w ≡ 0
HoldsReference R w (Object n) = (line : ℕ) × (w ≡ 2 * line) × R line n
HoldsReference R w (Int i) = ⊥
HoldsReference R w (Long i) = ⊥

-- the word is that of an int or a long
abbrev pub HoldsNumber : Kind → ℕ → Value → Type 0
HoldsNumber kind w value = (is_number kind w ≡ true) × (value ≡ value_of kind w)

-- the word of a slot of this kind has the value
abbrev pub Holds : LiesAt → Kind → ℕ → Value → Type 0
Holds R L w value = HoldsReference R w value
Holds R kind w value = HoldsNumber kind w value

-- Object n begins at the line: its shape is the directory's of that number, and the slots that are kept hold
-- its values.
pub record IsObject (R : LiesAt) (shapes : List Shape) (size : ℕ) (words : Words) (heap : Heap) (line n : ℕ) : Type 0 where
  pub there : n < length heap.objects
  pub known : shape_number words line < length shapes
  pub shape : shape_of shapes words line ≡ shape_at heap (object_at heap n).shape
  pub count : length_at words line ≡ length (values_of heap n)
  pub full : holds_slots (shape_of shapes words line).element (shape_of shapes words line).fields (length (values_of heap n)) ≡ true
  pub low : first_object_line ≤ line
  pub high : line + lines_of (length (values_of heap n)) ≤ size
  pub slots : (i : ℕ) → i < length (values_of heap n) → is_kept_slot heap n i ≡ true
      → Holds R (kind_of (shape_of shapes words line) i) (object_slot words line i) (slice_index_or (values_of heap n) i Null)

-- the objects that begin at two lines don't overlap
abbrev pub AreApart : Words → ℕ → ℕ → Type 0
AreApart words a b = (a + lines_of (length_at words a) ≤ b) ⊎ (b + lines_of (length_at words b) ≤ a)

-- what the r-th durable root of the heap holds
abbrev pub root_value_at : Heap → ℕ → Value
root_value_at heap r = slice_index_or (root_values heap) r Null

-- The objects that lie at lines are told apart by these and don't overlap, and each is an object of the heap.
-- The roots are those of the directory, and the root slots in use hold what they hold. Of words of slots that
-- aren't kept nothing is said.
pub record Corresponds (R : LiesAt) (directory : Directory) (size : ℕ) (words : Words) (heap : Heap) : Type 0 where
  pub one_object : (line m n : ℕ) → R line m → R line n → m ≡ n
  pub one_line : (a b n : ℕ) → R a n → R b n → a ≡ b
  pub objects : (line n : ℕ) → R line n → IsObject R directory.shapes size words heap line n
  pub apart : (a b m n : ℕ) → R a m → R b n → a ≢ b → AreApart words a b
  pub few : length heap.roots ≤ root_slots
  pub names : map (λ (root : Root). root.name) heap.roots ≡ directory.roots
  pub at_roots : (r : ℕ) → r < length heap.roots → HoldsReference R (root_word words r) (root_value_at heap r)
  pub unused : (r : ℕ) → length heap.roots ≤ r → r < root_slots → root_word words r ≡ 0

-- ---- changes of words and heaps

-- d has the words of c in the heads and kept slots of all objects, and in the root slots
pub record SameWords (R : LiesAt) (heap : Heap) (c d : Words) : Type 0 where
  pub heads : (line n : ℕ) → R line n → d line 0 ≡ c line 0
  pub slots : (line n : ℕ) → R line n → (i : ℕ) → i < length (values_of heap n) → is_kept_slot heap n i ≡ true
      → object_slot d line i ≡ object_slot c line i
  pub at_roots : (r : ℕ) → r < root_slots → root_word d r ≡ root_word c r

-- so, but for slot i of the object at this line
pub record SameButSlot (R : LiesAt) (heap : Heap) (c d : Words) (at i : ℕ) : Type 0 where
  pub heads : (line n : ℕ) → R line n → d line 0 ≡ c line 0
  pub slots : (line n : ℕ) → R line n → (j : ℕ) → j < length (values_of heap n) → is_kept_slot heap n j ≡ true
      → (line ≡ at → j ≢ i) → object_slot d line j ≡ object_slot c line j
  pub at_roots : (r : ℕ) → r < root_slots → root_word d r ≡ root_word c r

-- so, but for root slot r
pub record SameButRoot (R : LiesAt) (heap : Heap) (c d : Words) (at : ℕ) : Type 0 where
  pub heads : (line n : ℕ) → R line n → d line 0 ≡ c line 0
  pub slots : (line n : ℕ) → R line n → (i : ℕ) → i < length (values_of heap n) → is_kept_slot heap n i ≡ true
      → object_slot d line i ≡ object_slot c line i
  pub at_roots : (r : ℕ) → r < root_slots → r ≢ at → root_word d r ≡ root_word c r

-- the static of the r-th durable root
abbrev pub root_static : Heap → ℕ → ℕ
root_static heap r = slice_index_or (map (λ (root : Root). root.at) heap.roots) r 0

-- The other heap has the same roots and root values, and of the objects that lie somewhere the same shapes, as
-- many slots, and in those that are kept the same values.
pub record SameObjects (R : LiesAt) (heap other : Heap) : Type 0 where
  pub roots : other.roots ≡ heap.roots
  pub values : root_values other ≡ root_values heap
  pub there : (line n : ℕ) → R line n → n < length other.objects
  pub shapes : (line n : ℕ) → R line n → shape_at other (object_at other n).shape ≡ shape_at heap (object_at heap n).shape
  pub counts : (line n : ℕ) → R line n → length (values_of other n) ≡ length (values_of heap n)
  pub slots : (line n i : ℕ) → R line n → i < length (values_of heap n) → is_kept_slot heap n i ≡ true
      → value_at other (Slot n i) ≡ value_at heap (Slot n i)

-- The other heap has the same roots, and of the objects that lie somewhere the same shapes and as many slots.
pub record SameObjectSizes (R : LiesAt) (heap other : Heap) : Type 0 where
  pub roots : other.roots ≡ heap.roots
  pub there : (line n : ℕ) → R line n → n < length other.objects
  pub shapes : (line n : ℕ) → R line n → shape_at other (object_at other n).shape ≡ shape_at heap (object_at heap n).shape
  pub counts : (line n : ℕ) → R line n → length (values_of other n) ≡ length (values_of heap n)

-- d has the heads of c, and in each kept slot and root slot what the other heap holds there
pub record AgreesEverywhere (R : LiesAt) (heap other : Heap) (c d : Words) : Type 0 where
  pub heads : (line n : ℕ) → R line n → d line 0 ≡ c line 0
  pub slots : (line n i : ℕ) → R line n → i < length (values_of heap n) → is_kept_slot heap n i ≡ true
      → Holds R (kind_of (shape_at heap (object_at heap n).shape) i) (object_slot d line i) (value_at other (Slot n i))
  pub at_roots : (r : ℕ) → r < length heap.roots → HoldsReference R (root_word d r) (value_at other (Static (root_static heap r)))
  pub unused : (r : ℕ) → length heap.roots ≤ r → r < root_slots → root_word d r ≡ 0

-- an object of the one or the other relation
abbrev pub Either : LiesAt → LiesAt → LiesAt
Either R N line n = R line n ⊎ N line n

-- New objects, which may refer to one another and to the old ones: they lie elsewhere.
pub record CanJoin (R N : LiesAt) (directory : Directory) (size : ℕ) (words : Words) (heap : Heap) : Type 0 where
  pub objects : (line n : ℕ) → N line n → IsObject (Either R N) directory.shapes size words heap line n
  pub one_object : (line m n : ℕ) → Either R N line m → N line n → m ≡ n
  pub one_line : (a b n : ℕ) → Either R N a n → N b n → a ≡ b
  pub apart : (a b m n : ℕ) → Either R N a m → N b n → a ≢ b → AreApart words a b
