-- Heap, queues, image and monitors in agreement: what holds before and after each step of a conversion.
--
-- A thread claims the objects that are to become durable, copies and forwards them, repairs the references in their
-- copies, writes the copies back, and they are sealed together with what they refer to (Shull, Huang and Torrellas,
-- "AutoPersist", PLDI 2019).
--
-- held p x: a stop leaves x in word p of the image, now or later, if nothing is stored to it.
-- back p: the image reads word p as it is shown, so that a fence makes it durable.
-- keys w: the monitor of the object to which the word w refers is held.
use Rattle.std.specs.Prelude.{◌≡◌, ◌⊎◌, ℕ, ◌+◌, ◌*◌, ◌%◌, ◌<◌, ◌≤◌, ltb, Bool, true, List, length, slice_index_or}
use Rattle.std.specs.Prelude.{if◌then◌else◌}
use Rattle.twin_forms.specs.Table.{Entry, entry, View, word_of, Names, refers, kept_at, Lies, lines_of, line_of, HasCopied}
use Rattle.twin_forms.specs.Table.{IsClaimed, InP}
use Rattle.convert_queue.specs.declared.phase.Phase.{Phase}
use Rattle.convert_queue.specs.declared.phase.Phase.TheVariants.{Copy, Repair, Flush}
use Rattle.convert_queue.specs.Marks.{Mark, clean, stored, written, mark_at, IsStored, IsWritten}
use Rattle.convert_queue.specs.Queues.{Queued, Queues, queue_in, queue_of, place_of, phase_of, total}
use Rattle.convert_queue.specs.Threads.{needs_of}

-- ---- the queues

-- what stands at a place of a thread's queue: an object's index in the space, and the first line of its copy
abbrev pub item_in : List (List Queued) → ℕ → ℕ → Queued
item_in queues t i = slice_index_or (queue_in queues t) i (0, 0)

-- Object n is number i of the thread's queue.
pub record Is (q : Queues) (es : List Entry) (t i n : ℕ) : Type 0 where
  pub within : i < length (queue_of q t)
  pub claimed : IsClaimed es t n
  pub placed : 0 < (entry es n).stage
  pub object : (item_in q.queues t i).0 ≡ (entry es n).at
  pub line : (item_in q.queues t i).1 ≡ (entry es n).line

-- The queues hold exactly the objects that are claimed and not sealed, each once, with their first lines.
pub record Queueing (q : Queues) (es : List Entry) : Type 0 where
  pub there : (t i : ℕ) → i < length (queue_of q t) → (n : ℕ) × Is q es t i n
  pub all : (t n : ℕ) → IsClaimed es t n → (i : ℕ) × Is q es t i n
  pub once : (t i j n : ℕ) → Is q es t i n → Is q es t j n → i ≡ j

-- for 64 threads, and for each line of the image
pub record HaveSizes (q : Queues) (lines : ℕ) : Type 0 where
  pub queues : length q.queues ≡ 64
  pub places : length q.places ≡ 64
  pub phases : length q.phases ≡ 64
  pub needs : length q.needs ≡ 64
  pub marks : length q.marks ≡ lines

-- ---- how far a thread has come

-- how far object i of a queue is, whose thread is in such a phase at line l of object `at`
abbrev pub Far : Phase → ℕ → ℕ → ℕ → Entry → Type 0
Far Copy at l i e = (i < at → e.stage ≡ 2)
    × (i ≡ at → (e.stage ≡ 1) × ((e.copied ≡ l) ⊎ (e.copied ≡ l + 1)))
    × (at < i → (e.stage ≡ 1) × (e.copied ≡ 0))
Far Repair at l i e = e.stage ≡ 2
Far Flush at l i e = e.stage ≡ 2

-- line c of object i is repaired
abbrev pub IsMended : Phase → ℕ → ℕ → ℕ → ℕ → Type 0
IsMended Copy at l i c = ⊥
IsMended Repair at l i c = (i < at) ⊎ ((i ≡ at) × (c < l))
IsMended Flush at l i c = Unit {0}

-- The references of line c of object i may still be to be claimed: in phase Copy alone, at the thread's place.
abbrev pub IsOpen : Phase → ℕ → ℕ → ℕ → ℕ → Type 0
IsOpen Copy at l i c = (i ≡ at) × (c ≡ l)
IsOpen Repair at l i c = ⊥
IsOpen Flush at l i c = ⊥

-- The object is durable, or in the thread's own queue, or a thread that this thread needs has claimed it.
abbrev pub Met : List Entry → (ℕ → ℕ → Bool) → ℕ → ℕ → Type 0
Met es need t m = InP es m ⊎ (IsClaimed es t m ⊎ ((u : ℕ) × (need t u ≡ true) × IsClaimed es u m))

-- Object i of thread t's queue is as far as the thread's phase and place say. Each kept reference in a copied line is
-- met, and one in a repaired line leads to a copy.
pub record Reaches (v : View) (es : List Entry) (need : ℕ → ℕ → Bool) (p : Phase) (at l t i : ℕ) (e : Entry) : Type 0 where
  pub far : Far p at l i e
  pub met : (k m : ℕ) → refers v e k ≡ true → kept_at v e k ≡ true → k < e.slots → HasCopied e (line_of k)
      → (IsOpen p at l i (line_of k) → ⊥) → m < length es → Names (entry es m) (word_of v e k) → Met es need t m
  pub mended : (k : ℕ) → refers v e k ≡ true → kept_at v e k ≡ true → k < e.slots → IsMended p at l i (line_of k)
      → word_of v e k % 2 ≡ 0

-- ---- how the lines of copies stand to the image

-- Word p of the image is no slot of the object's copy that isn't kept.
abbrev pub Keeps : View → Entry → ℕ → Type 0
Keeps v e p = (k : ℕ) → p ≡ 8 * e.line + 1 + k → k < e.slots → kept_at v e k ≡ true

-- What the mark of a line says of its kept words. Clean: a stop leaves what they show. Written by the thread: the image
-- reads what they show. Stored to by the thread: nothing.
abbrev pub IsTied : View → (ℕ → ℕ → Type 0) → (ℕ → Type 0) → (ℕ → Type 0) → ℕ → ℕ → Mark → Type 0
IsTied v held back kept t l clean = (w x : ℕ) → w < 8 → kept (8 * l + w) → held (8 * l + w) x → x ≡ v.shown (8 * l + w)
IsTied v held back kept t l (stored u) = u ≡ t
IsTied v held back kept t l (written u) = (u ≡ t) × ((w : ℕ) → w < 8 → kept (8 * l + w) → back (8 * l + w))

-- The marks of the copied lines of thread t's object are right.
abbrev pub AreTied : View → (ℕ → ℕ → Type 0) → (ℕ → Type 0) → List Mark → ℕ → Entry → Type 0
AreTied v held back marks t e = (c : ℕ) → c < lines_of e → HasCopied e c
    → IsTied v held back (Keeps v e) t (e.line + c) (mark_at marks (e.line + c))

-- the line is a copied one of an object that the thread has claimed and not sealed
pub record IsCopied (es : List Entry) (t l : ℕ) : Type 0 where
  pub n : ℕ
  pub c : ℕ
  pub claimed : IsClaimed es t n
  pub within : c < lines_of (entry es n)
  pub copied : HasCopied (entry es n) c
  pub here : l ≡ (entry es n).line + c

-- ---- monitors

-- the word of the reference to the copy that is current
abbrev pub current_word : Entry → ℕ
current_word e = if ltb e.stage 2 then 2 * e.at + 1 else 2 * e.line

abbrev pub IsResolved : List Entry → ℕ → Type 0
IsResolved es w = (n : ℕ) × (n < length es) × (w ≡ current_word (entry es n))

-- ---- agreement

-- what holds of the object that is number i of thread t's queue
pub record OnItsWay (v : View) (es : List Entry) (held : ℕ → ℕ → Type 0) (back : ℕ → Type 0) (q : Queues) (t i : ℕ) (e : Entry) : Type 0 where
  pub reaches : Reaches v es (needs_of q.needs) (phase_of q t) (place_of q t).0 (place_of q t).1 t i e
  pub tied : AreTied v held back q.marks t e

-- Heap, queues, image, lines and monitors agree.
pub record Agrees (v : View) (held : ℕ → ℕ → Type 0) (back : ℕ → Type 0) (q : Queues) (free : ℕ) (keys : ℕ → Type 0) (es : List Entry) : Type 0 where
  pub lies : Lies v es
  pub sizes : HaveSizes q v.lines
  -- the queues hold exactly the claimed and unsealed objects
  pub queued : Queueing q es
  -- Places and phases say what was copied, forwarded, repaired and written, references in copied lines are met, and the
  -- queue was told of each store to a copied line. No mark is ahead of the image: what it calls written is written back,
  -- and what it calls clean is durable. It may lag behind a fence; that each fence is told, the steps that make one say.
  pub on_way : (t i n : ℕ) → Is q es t i n → OnItsWay v es held back q t i (entry es n)
  -- it was told of no other stores
  pub noted : (t l : ℕ) → IsStored q.marks t l ⊎ IsWritten q.marks t l → IsCopied es t l
  -- a thread that is needed has claimed an object and not sealed it
  pub real : (t u : ℕ) → t < 64 → u < 64 → needs_of q.needs t u ≡ true → (n : ℕ) × IsClaimed es u n
  -- the lines that are left are in no object, and each queued object took one
  pub below : (n : ℕ) → n < length es → 0 < (entry es n).stage → (entry es n).line + lines_of (entry es n) ≤ free
  pub few : total q.queues < free
  -- the key of each held monitor of an object is the reference to its current copy
  pub resolved : (w : ℕ) → keys w → IsResolved es w
