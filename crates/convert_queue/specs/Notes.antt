-- What is kept of each line, and a tree over the lines from whose nodes the least one that a thread has to write is found.
use Rattle.std.specs.Prelude.{◌≡◌, ◌≢◌, ℕ, ◌+◌, ◌-◌, ◌*◌, ◌^◌, ◌<◌, ◌≤◌, ◌||◌, ◌==◌, Bool, true, false, ltb, nat_eq, List, map}
use Rattle.std.specs.Prelude.{length, slice_index, slice_index_or, if◌then◌else◌}
use Rattle.convert_queue.specs.declared.line_marks.Note.{Note}
use Rattle.convert_queue.specs.declared.line_marks.Note.TheVariants.{Clean, Stored, Written}
use Rattle.convert_queue.specs.Marks.{Mark, clean, stored, written, IsClean, IsWritten}
use Rattle.convert_queue.specs.Threads.{has}

-- A note of a write has the number of fences that were made before it.
abbrev pub mark_of : ℕ → Note → Mark
mark_of fences Clean = clean
mark_of fences (Stored t) = stored t
mark_of fences (Written t before) = if nat_eq before fences then written t else clean

abbrev pub IsBefore : ℕ → Note → Type 0
IsBefore fences Clean = Unit {0}
IsBefore fences (Stored t) = Unit {0}
IsBefore fences (Written t before) = before ≤ fences

abbrev pub marks_of : ℕ → List Note → List Mark
marks_of fences notes = map (mark_of fences) notes

abbrev pub note_at : List Note → ℕ → Note
note_at notes l = slice_index_or notes l Clean

-- the thread has to write the line
abbrev pub has_stored : ℕ → Note → Bool
has_stored t Clean = false
has_stored t (Stored u) = u == t
has_stored t (Written u before) = false

-- The inner nodes of the tree are numbered from 1 on, and its leaves, the lines, from its length on. The children of
-- node n are 2 n and 2 n + 1. An inner node has the threads that have to write a line below it.
abbrev pub node_has : List Note → List ℕ → ℕ → ℕ → Bool
node_has notes tree t n =
    if ltb n (length tree) then has (slice_index tree n) t else has_stored t (note_at notes (n - length tree))

abbrev pub Joins : List Note → List ℕ → ℕ → ℕ → Type 0
Joins notes tree t n = node_has notes tree t n ≡ (node_has notes tree t (2 * n) || node_has notes tree t (2 * n + 1))

-- each inner node but one has the threads of its children
abbrev pub IsTreeBut : List Note → List ℕ → ℕ → Type 0
IsTreeBut notes tree but = (t n : ℕ) → 0 < n → n < length tree → n ≢ but → Joins notes tree t n

abbrev pub IsTree : List Note → List ℕ → Type 0
IsTree notes tree = (t n : ℕ) → 0 < n → n < length tree → Joins notes tree t n

-- the least line that the thread has to write
pub record IsLeastStored (notes : List Note) (t l : ℕ) : Type 0 where
  pub here : has_stored t (note_at notes l) ≡ true
  pub least : (k : ℕ) → k < l → has_stored t (note_at notes k) ≡ true → ⊥

pub record AreNotes (notes : List Note) (tree : List ℕ) (levels fences unfenced : ℕ) : Type 0 where
  pub size : length tree ≡ 2 ^ levels
  pub few : levels ≤ 32
  pub fit : length notes ≤ length tree
  pub joins : IsTree notes tree
  pub before : (l : ℕ) → IsBefore fences (note_at notes l)
  pub waits : (t l : ℕ) → IsWritten (marks_of fences notes) t l → has unfenced t ≡ true
  pub none_waits : (t : ℕ) → IsClean (marks_of fences notes) t → has unfenced t ≡ false

abbrev pub without_write : Note → Note
without_write Clean = Clean
without_write (Stored t) = Stored t
without_write (Written t before) = Clean
