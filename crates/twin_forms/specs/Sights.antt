-- The words of a heap: those of its space, those that its memory shows, and what it keeps beside them.
use Rattle.std.specs.Prelude.{ℕ, ◌/◌, ◌%◌, ◌<◌, Bool, true, List, [], length, slice_index, slice_index_or, slice_get, Option}
use Rattle.std.specs.Prelude.{Some, None}
use Rattle.ap_base.specs.declared.kind.Kind.{Kind}
use Rattle.volatile_space.specs.Spaces.{Space}
use Rattle.line_memory.specs.Memory.{Memory, shown, CanLeave, IsWritten, IsKnown}
use Rattle.twin_forms.specs.declared.kinds.ShapeKinds.{ShapeKinds}
use Rattle.twin_forms.specs.Table.{View}

abbrev pub no_kinds : ShapeKinds
no_kinds = record { fields = []; element = None }

-- the kind of a slot of an object of the shape, if it has one
abbrev pub kind_in : ShapeKinds → ℕ → Option Kind
kind_in kinds k = elim kinds.element [
  | None ↦ slice_get kinds.fields k
  | Some kind ↦ Some kind
]

abbrev pub slot_kind : List ShapeKinds → ℕ → ℕ → Option Kind
slot_kind kinds shape k = kind_in (slice_index_or kinds shape no_kinds) k

-- What a heap keeps beside the words. By the first line of a copy: the object's number, how many lines are copied, and 0
-- or 1 + the thread that has claimed the object. By number: the word of the reference with which an object began. By
-- shape: its kinds. `room` is for how many further objects there is memory.
pub record Marks : Type 0 where
  pub numbers : List ℕ
  pub copies : List ℕ
  pub owners : List ℕ
  pub births : List ℕ
  pub kinds : List ShapeKinds
  pub room : ℕ

-- Which slots of a shape's objects are kept in the image: all of them.
abbrev pub kept_slots : ℕ → ℕ → Bool
kept_slots shape k = true

abbrev pub sight : Space → Memory → Marks → View
sight space m marks = record {
  old = λ p. slice_index space.words p;
  shown = λ p. shown m (p / 8) (p % 8);
  number = λ l. slice_index marks.numbers l;
  copied = λ l. slice_index marks.copies l;
  owner = λ l. slice_index marks.owners l;
  birth = λ n. slice_index marks.births n;
  kinds = λ shape k. slot_kind marks.kinds shape k;
  kept = kept_slots;
  words = length space.words;
  left = space.left;
  lines = m.size;
  marks = length marks.numbers;
  count = length marks.births;
  shapes = length marks.kinds;
  room = marks.room;
}

-- A heap: its space, its memory, and what it keeps beside them.
pub record Twin : Type 0 where
  pub space : Space
  pub memory : Memory
  pub marks : Marks

abbrev pub view_of : Twin → View
view_of heap = sight heap.space heap.memory heap.marks

-- What each line shows is known: it is resident, or the image tells what a read gives.
abbrev pub AllKnown : Memory → Type 0
AllKnown m = (l : ℕ) → l < m.size → IsKnown m l

-- what a stop may leave of a word of the image, and whether the image reads the word as it is shown
abbrev pub held_of : Memory → ℕ → ℕ → Type 0
held_of m p x = CanLeave m (p / 8) (p % 8) x

abbrev pub written_of : Memory → ℕ → Type 0
written_of m p = IsWritten m (p / 8) (p % 8)
