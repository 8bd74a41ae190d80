-- What the calls on a heap need of its lines, and what they tell of an object.
use Rattle.std.specs.Prelude.{◌≡◌, ◌≢◌, ℕ, ◌+◌, ◌-◌, ◌*◌, ◌/◌, ◌%◌, ◌<◌, ◌≤◌, ◌⊎◌, ltb, List, Option, length, slice_set}
use Rattle.std.specs.Prelude.{if◌then◌else◌}
use Rattle.ap_base.specs.declared.reference.Ref.{Ref}
use Rattle.ap_base.specs.declared.reference.Ref.TheVariants.{Null, Persistent, Volatile}
use Rattle.line_memory.specs.Memory.{Memory, shown, IsAwaited, IsResident}
use Rattle.ap_base.specs.declared.kind.Kind.{Kind}
use Rattle.object_header.specs.declared.state.State.{State}
use Rattle.object_header.specs.declared.state.State.TheVariants.{Ordinary, Claimed, Copying, Converted, Durable}
use Rattle.twin_forms.specs.declared.kinds.ShapeKinds.{ShapeKinds}
use Rattle.std.specs.Prelude.{◌^◌, true, map, slice_index}
use Rattle.graph_model.specs.declared.types.Field.{Field}
use Rattle.graph_model.specs.declared.types.Shape.{Shape}
use Rattle.twin_forms.specs.Sights.{Marks, slot_kind}
use Rattle.twin_forms.specs.Table.{Entry, entry, View, Lies, Names, Apart, head_word, is_reference, line_of}
use Rattle.twin_forms.specs.Moves.{MayStore, ChangesLine, copy_word, repaired}

-- The head of the object's copy and the word of the slot are in resident lines. An object without lines needs none.
abbrev pub IsHere : Memory → Entry → ℕ → Type 0
IsHere m e i = 0 < e.stage → IsResident m e.line × IsResident m (e.line + line_of i)

-- the reference to the copy that is current
abbrev pub current : Entry → Ref
current e = if ltb e.stage 2 then Volatile e.at else Persistent e.line

-- The heap is valid, the reference leads to an object, and the object's head is here.
abbrev pub HasHead : View → Memory → ℕ → Type 0
HasHead v m r = (es : List Entry) × (n : ℕ) × Lies v es × (n < length es) × Names (entry es n) r × IsHere m (entry es n) 0

-- It has such a slot, which is here.
abbrev pub HasWord : View → Memory → ℕ → ℕ → Type 0
HasWord v m r i = (es : List Entry) × (n : ℕ) × Lies v es × (n < length es) × Names (entry es n) r × (i < (entry es n).slots) × IsHere m (entry es n) i

-- It has such a slot, or the index is 0.
abbrev pub HasPlace : View → ℕ → ℕ → Type 0
HasPlace v r i = (es : List Entry) × (n : ℕ) × Lies v es × (n < length es) × Names (entry es n) r × ((i < (entry es n).slots) ⊎ (i ≡ 0))

-- The slot may be given the word, and is here.
abbrev pub CanStore : View → Memory → ℕ → ℕ → ℕ → Type 0
CanStore v m r i w = (es : List Entry) × (n : ℕ) × MayStore v r i w es n × IsHere m (entry es n) i

-- Whatever table says where the objects lie, this holds of the object to which the reference leads.
abbrev pub Says : View → ℕ → (Entry → ℕ → Type 0) → Type 0
Says v r P = (es : List Entry) (n : ℕ) → Lies v es → n < length es → Names (entry es n) r → P (entry es n) n

-- the same where this holds of the table and of the object's number in it
abbrev pub SaysIn : View → ℕ → (List Entry → ℕ → Type 0) → Type 0
SaysIn v r P = (es : List Entry) (n : ℕ) → Lies v es → n < length es → Names (entry es n) r → P es n

-- the words of the space after a store to the copy that is current
abbrev pub old_stored : Ref → ℕ → ℕ → List ℕ → List ℕ
old_stored Null i w words = words
old_stored (Persistent line) i w words = words
old_stored (Volatile at) i w words = slice_set words (at + 3 + i) w

-- One word of the image is stored to.
pub record StoresAt (line word w : ℕ) (old new : Memory) : Type 0 where
  pub here : shown new line word ≡ w
  pub others : (l x : ℕ) → (l ≡ line → x ≢ word) → shown new l x ≡ shown old l x
  pub changes : ChangesLine line old new

-- the line in a state
abbrev pub line_in : State → ℕ
line_in Ordinary = 0
line_in (Claimed t) = 0
line_in (Copying t line) = line
line_in (Converted t line) = line
line_in (Durable line) = line

-- The words of the line from low to before high are those that P says, and its other words are as before.
pub record IsFilled (line low high : ℕ) (P : ℕ → ℕ) (old new : Memory) : Type 0 where
  pub inside : (w : ℕ) → low ≤ w → w < high → shown new line w ≡ P w
  pub outside : (w : ℕ) → (w < low) ⊎ (high ≤ w) → shown new line w ≡ shown old line w
  pub changes : ChangesLine line old new

-- the kind of the slot that word w of a copy's line c holds
abbrev pub kind_in_line : List ShapeKinds → ℕ → ℕ → ℕ → Option Kind
kind_in_line kinds shape c w = slot_kind kinds shape (8 * c + w - 1)

-- Word w of a copy's line c as it is copied from the space: the object's head, a slot, or 0 behind the slots.
abbrev pub copied_in : List ℕ → Entry → ℕ → ℕ → ℕ
copied_in words e c w = copy_word (slice_index words) (head_word e) (e.at + 2) e.slots (8 * c + w)

-- Word w of a copy's line c as it is repaired, of a line with these words.
abbrev pub repaired_in : List ℕ → List ShapeKinds → Entry → ℕ → (ℕ → ℕ) → ℕ → ℕ
repaired_in words kinds e c line w = repaired (slice_index words) (is_reference (kind_in_line kinds e.shape c w)) (line w)

-- A line that wasn't resident is, or a next touch will make it so; a touch that was awaited has made it so.
pub record IsFetched (line : ℕ) (old new : Memory) : Type 0 where
  pub missing : IsResident old line → ⊥
  pub nearer : IsResident new line ⊎ IsAwaited new line
  pub not_twice : IsAwaited old line → IsResident new line

-- the kinds of a shape's slots
abbrev pub kind_of_field : Field → Kind
kind_of_field f = f.kind

abbrev pub kinds_of : Shape → ShapeKinds
kinds_of shape = record { fields = map kind_of_field shape.fields; element = shape.element }

-- an object that lies in the image alone, from this line on, as its head tells
abbrev pub opened : Memory → ℕ → Entry
opened m line = record { shape = shown m line 0 % 4294967296; slots = shown m line 0 / 4294967296; at = 0; line = line; copied = 0; owner = 0; stage = 3 }

abbrev pub opening : Memory → List ℕ → List Entry
opening m lines = map (opened m) lines

-- At these lines the memory shows objects of so many shapes, apart from one another, whose references are null or lead
-- to one of them.
pub record IsOpening (m : Memory) (kinds : List ShapeKinds) (lines : List ℕ) : Type 0 where
  pub few_lines : m.size < 2 ^ 32
  pub few_shapes : length kinds ≤ 2 ^ 32
  pub within : (n : ℕ) → n < length lines → (0 < slice_index lines n) × (slice_index lines n + (opened m (slice_index lines n)).slots / 8 + 1 ≤ m.size)
  pub shape_in : (n : ℕ) → n < length lines → (opened m (slice_index lines n)).shape < length kinds
  pub few_slots : (n : ℕ) → n < length lines → (opened m (slice_index lines n)).slots < 2 ^ 31
  pub apart : (i j : ℕ) → i < length lines → j < length lines → i ≢ j → Apart (slice_index lines i)
      ((opened m (slice_index lines i)).slots / 8 + 1) (slice_index lines j)
      ((opened m (slice_index lines j)).slots / 8 + 1)
  pub refs : (n k : ℕ) → n < length lines → is_reference (slot_kind kinds (opened m (slice_index lines n)).shape k) ≡ true → k < (opened m (slice_index lines n)).slots
      → (shown m (slice_index lines n + line_of k) ((1 + k) % 8) ≡ 0) ⊎ ((i : ℕ) × (i < length lines) × (shown m (slice_index lines n + line_of k) ((1 + k) % 8) ≡ 2 * slice_index lines i))

-- What a heap keeps of these objects: their numbers in order, and nobody owns one.
pub record Begins (kinds : List ShapeKinds) (lines : List ℕ) (size room : ℕ) (marks : Marks) : Type 0 where
  pub marked : length marks.numbers ≡ size
  pub numbers : (n : ℕ) → n < length lines → slice_index marks.numbers (slice_index lines n) ≡ n
  pub owners : (l : ℕ) → slice_index marks.owners l ≡ 0
  pub count : length marks.births ≡ length lines
  pub births : (n : ℕ) → n < length lines → slice_index marks.births n ≡ 2 * slice_index lines n
  pub kinds_are : marks.kinds ≡ kinds
  pub room_is : marks.room ≡ room

-- it lies at this index of the space, and is being copied
abbrev pub IsBeingCopied : ℕ → View → List Entry → ℕ → Type 0
IsBeingCopied at v es n = ((entry es n).at ≡ at) × ((entry es n).stage ≡ 1)
