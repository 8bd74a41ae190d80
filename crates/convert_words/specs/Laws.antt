-- What each kind of step leaves of the agreement.
use Rattle.convert_queue.specs.Marks.{mark_at, clean}
use Rattle.std.specs.Prelude.{◌≡◌, ◌≢◌, ◌⊎◌, ◌↔◌, ℕ, ◌+◌, ◌*◌, ◌<◌, ◌≤◌, true, List, length, slice_set, [], ◌∷◌, ◌++◌, false}
use Rattle.line_memory.specs.Memory.{Memory, IsWritten, IsDurable}
use Rattle.line_memory.specs.Moments.{KeepsShown}
use Rattle.twin_forms.specs.Table.{Entry, entry, word_of, refers, kept_at, Names, lines_of, line_of, HasCopied, IsClaimed, InP}
use Rattle.twin_forms.specs.Table.{Lies}
use Rattle.twin_forms.specs.Moves.{Moved, Stored, ChangesLine, one_more, forwarded, IsRepaired, Added, fresh}
use Rattle.twin_forms.specs.Sights.{Twin, view_of, held_of, AllKnown}
use Rattle.convert_queue.specs.declared.phase.Phase.{Phase}
use Rattle.convert_queue.specs.declared.phase.Phase.TheVariants.{Copy, Repair, Flush}
use Rattle.convert_queue.specs.Queues.{Queues, queue_of, place_of, phase_of, IsSettled, total}
use Rattle.convert_queue.specs.Threads.{has, needs_of, IsClosed}
use Rattle.convert_words.specs.Agreeing.{Is, Met, Reaches, HaveSizes}
use Rattle.convert_words.specs.Scenes.{Scene, IsKey, AgreesAt}
use Rattle.convert_words.specs.Sealing.{SealedBy, FencedAndClosed, AreSealed, OfSet, Released}
use Rattle.convert_words.specs.Steps.{told, told_written, told_fenced, with_object, GoesTo, OneBecomes, claimed_at, MayHold}
use Rattle.convert_words.specs.Steps.{IsAnswered}

-- ---- the start

-- Nobody has claimed an object, no line is marked, and no monitor is held.
abbrev pub StartsAgree : Type 0
StartsAgree = (s : Scene) (es : List Entry) → Lies (view_of s.heap) es → HaveSizes s.queue (view_of s.heap).lines
    → ((t : ℕ) → queue_of s.queue t ≡ []) → ((t u : ℕ) → needs_of s.queue.needs t u ≡ false)
    → ((l : ℕ) → mark_at s.queue.marks l ≡ clean) → total s.queue.queues ≡ 0 → 0 < s.free
    → ((n : ℕ) → n < length es → 0 < (entry es n).stage → (entry es n).line + lines_of (entry es n) ≤ s.free)
    → ((n : ℕ) → n < length es → (entry es n).owner ≡ 0) → length s.keys ≡ 0 → AgreesAt s es

-- ---- the image

-- A call of the image that stores nothing: a touch, or a write-back or a fence of which the queue isn't told yet.
abbrev pub CallsKeep : Type 0
CallsKeep = (s : Scene) (m : Memory) (es : List Entry)
    → AllKnown s.heap.memory → AllKnown m → KeepsShown s.heap.memory m
    → AgreesAt s es → AgreesAt (record s { heap = record s.heap { memory = m } }) es

-- The queue is told of a write-back of a line.
abbrev pub ToldWritesKeep : Type 0
ToldWritesKeep = (s : Scene) (l : ℕ) (es : List Entry)
    → l < s.heap.memory.size → ((w : ℕ) → IsWritten s.heap.memory l w)
    → AgreesAt s es → AgreesAt (record s { queue = told_written s.queue l }) es

-- A fence that succeeds, of which the queue is told.
abbrev pub ToldFencesKeep : Type 0
ToldFencesKeep = (s : Scene) (m : Memory) (es : List Entry)
    → AllKnown s.heap.memory → AllKnown m → KeepsShown s.heap.memory m
    → ((l w : ℕ) → IsWritten s.heap.memory l w → IsDurable m l w)
    → AgreesAt s es → AgreesAt (record s { heap = record s.heap { memory = m }; queue = told_fenced s.queue }) es

-- A store to a line of no object: of a root's slot, or of a log.
abbrev pub OtherStoresKeep : Type 0
OtherStoresKeep = (s : Scene) (m : Memory) (line : ℕ) (es : List Entry) → ChangesLine line s.heap.memory m
    → ((n : ℕ) → n < length es → 0 < (entry es n).stage
    → (line < (entry es n).line) ⊎ ((entry es n).line + lines_of (entry es n) ≤ line))
    → AgreesAt s es → AgreesAt (record s { heap = record s.heap { memory = m } }) es

-- ---- queues

-- A thread needs others more, each of which has claimed an object.
abbrev pub NeedsKeep : Type 0
NeedsKeep = (s : Scene) (needs : List ℕ) (es : List Entry) → length needs ≡ length s.queue.needs
    → ((t u : ℕ) → needs_of s.queue.needs t u ≡ true → needs_of needs t u ≡ true)
    → ((t u : ℕ) → t < 64 → u < 64 → needs_of needs t u ≡ true → (n : ℕ) × IsClaimed es u n)
    → AgreesAt s es → AgreesAt (record s { queue = record s.queue { needs = needs } }) es

-- A thread comes to another phase or place, as far as its objects reach.
abbrev pub PlacesKeep : Type 0
PlacesKeep = (s : Scene) (q : Queues) (t : ℕ) (p : Phase) (n l : ℕ) (es : List Entry) → GoesTo t p n l s.queue q
    → ((i m : ℕ) → Is s.queue es t i m → Reaches (view_of s.heap) es (needs_of s.queue.needs) p n l t i (entry es m))
    → AgreesAt s es → AgreesAt (record s { queue = q }) es

-- ---- moves

-- An ordinary object is claimed by a thread in phase Copy whose place is within its queue, or at its end.
abbrev pub ClaimsKeep : Type 0
ClaimsKeep = (s : Scene) (heap : Twin) (es es' : List Entry) (t n : ℕ)
    → n < length es → (entry es n).stage ≡ 0 → (entry es n).owner ≡ 0 → t < 64 → phase_of s.queue t ≡ Copy
    → ((place_of s.queue t).0 < length (queue_of s.queue t))
    ⊎ (((place_of s.queue t).0 ≡ length (queue_of s.queue t)) × ((place_of s.queue t).1 ≡ 0))
    → Moved (view_of s.heap) es (view_of heap) es' → OneBecomes n (claimed_at t s.free (entry es n)) es es'
    → heap.memory ≡ s.heap.memory → AgreesAt s es
    → AgreesAt (record s { heap = heap; queue = with_object s.queue t (entry es n).at s.free; free = s.free + lines_of (entry es n) }) es'

-- The next line of the object at the thread's place is copied.
abbrev pub CopiesKeep : Type 0
CopiesKeep = (s : Scene) (heap : Twin) (es : List Entry) (t i n : ℕ) → Is s.queue es t i n
    → phase_of s.queue t ≡ Copy → (place_of s.queue t).0 ≡ i → (entry es n).stage ≡ 1
    → (entry es n).copied ≡ (place_of s.queue t).1 → 8 * (entry es n).copied ≤ (entry es n).slots
    → Moved (view_of s.heap) es (view_of heap) (slice_set es n (one_more (entry es n)))
    → ChangesLine ((entry es n).line + (entry es n).copied) s.heap.memory heap.memory → AgreesAt s es
    → AgreesAt (record s { heap = heap; queue = told s.queue t ((entry es n).line + (entry es n).copied) })
    (slice_set es n (one_more (entry es n)))

-- The object at the thread's place is forwarded, the place goes on, and the key of its monitor is another.
abbrev pub ForwardsKeep : Type 0
ForwardsKeep = (s : Scene) (heap : Twin) (q : Queues) (keys : List ℕ) (es : List Entry) (t i n : ℕ) → Is s.queue es t i n
    → phase_of s.queue t ≡ Copy → (place_of s.queue t).0 ≡ i → (entry es n).stage ≡ 1
    → (entry es n).copied ≡ (place_of s.queue t).1 → (entry es n).slots < 8 * (entry es n).copied
    → Moved (view_of s.heap) es (view_of heap) (slice_set es n (forwarded (entry es n)))
    → heap.memory ≡ s.heap.memory → GoesTo t Copy (i + 1) 0 s.queue q
    → ((w : ℕ) → IsKey keys w → (IsKey s.keys w × (w ≢ 2 * (entry es n).at + 1)) ⊎ (w ≡ 2 * (entry es n).line))
    → AgreesAt s es
    → AgreesAt (record { heap = heap; queue = q; free = s.free; keys = keys }) (slice_set es n (forwarded (entry es n)))

-- The line at the thread's place is repaired.
abbrev pub RepairsKeep : Type 0
RepairsKeep = (s : Scene) (heap : Twin) (es : List Entry) (t i n c : ℕ) → Is s.queue es t i n
    → phase_of s.queue t ≡ Repair → (place_of s.queue t).0 ≡ i → (place_of s.queue t).1 ≡ c → c < lines_of (entry es n)
    → Moved (view_of s.heap) es (view_of heap) es → ChangesLine ((entry es n).line + c) s.heap.memory heap.memory
    → AgreesAt s es → AgreesAt (record s { heap = heap; queue = told s.queue t ((entry es n).line + c) }) es

-- ---- seals

-- What a closed set of settled threads has claimed is fenced, and refers to what is sealed with it.
abbrev pub SettledSetsAreClosed : Type 0
SettledSetsAreClosed = (s : Scene) (es : List Entry) (set : ℕ) → AgreesAt s es
    → IsClosed (needs_of s.queue.needs) (has set) → ((t : ℕ) → has set t ≡ true → IsSettled s.queue t)
    → FencedAndClosed (view_of s.heap) (held_of s.heap.memory) es set

-- Its objects are sealed, and its queues are emptied.
abbrev pub SealsKeep : Type 0
SealsKeep = (s : Scene) (heap : Twin) (q : Queues) (es es' : List Entry) (set : ℕ)
    → ((t : ℕ) → has set t ≡ true → IsSettled s.queue t) → Moved (view_of s.heap) es (view_of heap) es'
    → AreSealed (OfSet es set) es es' → heap.memory ≡ s.heap.memory → Released set s.queue q
    → AgreesAt s es → AgreesAt (record s { heap = heap; queue = q }) es'

-- Then exactly these objects are durable, and those that were.
abbrev pub SealsMakeDurable : Type 0
SealsMakeDurable = (s : Scene) (es es' : List Entry) (set : ℕ) → AgreesAt s es
    → ((t : ℕ) → has set t ≡ true → IsSettled s.queue t) → AreSealed (OfSet es set) es es'
    → (n : ℕ) → InP es' n ↔ SealedBy es set n

-- ---- stores of the program

-- to a queued object's slot whose line has been copied
abbrev pub CopiedStoresKeep : Type 0
CopiedStoresKeep = (s : Scene) (heap : Twin) (es : List Entry) (t i n k w : ℕ) → Is s.queue es t i n
    → k < (entry es n).slots → HasCopied (entry es n) (line_of k) → Stored (view_of s.heap) (view_of heap) es n k w
    → heap.marks ≡ s.heap.marks → ChangesLine ((entry es n).line + line_of k) s.heap.memory heap.memory
    → MayHold (view_of s.heap) es n k w → AgreesAt s es
    → AgreesAt (record s { heap = heap; queue = told s.queue t ((entry es n).line + line_of k) }) es

-- to a queued object's slot whose line hasn't been copied: any word
abbrev pub OldStoresKeep : Type 0
OldStoresKeep = (s : Scene) (heap : Twin) (es : List Entry) (t i n k w : ℕ) → Is s.queue es t i n
    → (HasCopied (entry es n) (line_of k) → ⊥) → Stored (view_of s.heap) (view_of heap) es n k w
    → heap.marks ≡ s.heap.marks → heap.memory ≡ s.heap.memory
    → AgreesAt s es → AgreesAt (record s { heap = heap }) es

-- to an object that nobody has claimed: an ordinary one
abbrev pub OrdinaryStoresKeep : Type 0
OrdinaryStoresKeep = (s : Scene) (heap : Twin) (es : List Entry) (n k w : ℕ) → n < length es
    → (entry es n).owner ≡ 0 → Stored (view_of s.heap) (view_of heap) es n k w
    → heap.marks ≡ s.heap.marks → heap.memory ≡ s.heap.memory
    → AgreesAt s es → AgreesAt (record s { heap = heap }) es

-- and a durable one
abbrev pub DurableStoresKeep : Type 0
DurableStoresKeep = (s : Scene) (heap : Twin) (es : List Entry) (n k w : ℕ) → InP es n → k < (entry es n).slots
    → Stored (view_of s.heap) (view_of heap) es n k w
    → heap.marks ≡ s.heap.marks → ChangesLine ((entry es n).line + line_of k) s.heap.memory heap.memory
    → AgreesAt s es → AgreesAt (record s { heap = heap }) es

-- ---- new objects

-- A new object lies behind the words that were taken.
abbrev pub NewObjectsKeep : Type 0
NewObjectsKeep = (s : Scene) (heap : Twin) (es : List Entry) (shape slots : ℕ)
    → Added shape slots (view_of s.heap) es (view_of heap) → heap.memory ≡ s.heap.memory → AgreesAt s es
    → AgreesAt (record s { heap = heap }) (es ++ fresh shape slots (view_of s.heap).words ∷ [])

-- ---- references and places

-- A reference that asks nothing more of a thread is met.
abbrev pub AnsweredIsMet : Type 0
AnsweredIsMet = (s : Scene) (es : List Entry) (t m : ℕ) → m < length es
    → IsAnswered (entry es m) (needs_of s.queue.needs) t → Met es (needs_of s.queue.needs) t m

-- The references of the copied line at the place are met: the thread may go on to the next line.
abbrev pub MetLinesGoOn : Type 0
MetLinesGoOn = (s : Scene) (es : List Entry) (t i0 n0 : ℕ) → AgreesAt s es → Is s.queue es t i0 n0
    → phase_of s.queue t ≡ Copy → (place_of s.queue t).0 ≡ i0 → (entry es n0).copied ≡ (place_of s.queue t).1 + 1
    → ((k m : ℕ) → refers (view_of s.heap) (entry es n0) k ≡ true → kept_at (view_of s.heap) (entry es n0) k ≡ true
    → k < (entry es n0).slots → line_of k ≡ (place_of s.queue t).1 → m < length es
    → Names (entry es m) (word_of (view_of s.heap) (entry es n0) k) → Met es (needs_of s.queue.needs) t m)
    → (i n : ℕ) → Is s.queue es t i n
    → Reaches (view_of s.heap) es (needs_of s.queue.needs) Copy i0 ((place_of s.queue t).1 + 1) t i (entry es n)

-- All objects of a queue are forwarded: the thread may begin its repair.
abbrev pub ForwardedQueuesRepair : Type 0
ForwardedQueuesRepair = (s : Scene) (es : List Entry) (t : ℕ) → AgreesAt s es
    → phase_of s.queue t ≡ Copy → length (queue_of s.queue t) ≤ (place_of s.queue t).0
    → (i n : ℕ) → Is s.queue es t i n → Reaches (view_of s.heap) es (needs_of s.queue.needs) Repair 0 0 t i (entry es n)

-- The line at the place is repaired: the thread may go on to the next line, and behind the last one to the next object.
abbrev pub RepairedLinesGoOn : Type 0
RepairedLinesGoOn = (s : Scene) (es : List Entry) (t i0 n0 : ℕ) → AgreesAt s es → Is s.queue es t i0 n0
    → phase_of s.queue t ≡ Repair → (place_of s.queue t).0 ≡ i0 → IsRepaired (place_of s.queue t).1 (view_of s.heap) es n0
    → (i n : ℕ) → Is s.queue es t i n
    → Reaches (view_of s.heap) es (needs_of s.queue.needs) Repair i0 ((place_of s.queue t).1 + 1) t i (entry es n)

abbrev pub RepairedObjectsGoOn : Type 0
RepairedObjectsGoOn = (s : Scene) (es : List Entry) (t i0 n0 : ℕ) → AgreesAt s es → Is s.queue es t i0 n0
    → phase_of s.queue t ≡ Repair → (place_of s.queue t).0 ≡ i0 → lines_of (entry es n0) ≤ (place_of s.queue t).1
    → (i n : ℕ) → Is s.queue es t i n
    → Reaches (view_of s.heap) es (needs_of s.queue.needs) Repair (i0 + 1) 0 t i (entry es n)

-- All objects of a queue are repaired: the thread may begin its flush.
abbrev pub RepairedQueuesFlush : Type 0
RepairedQueuesFlush = (s : Scene) (es : List Entry) (t : ℕ) → AgreesAt s es
    → phase_of s.queue t ≡ Repair → length (queue_of s.queue t) ≤ (place_of s.queue t).0
    → (i n : ℕ) → Is s.queue es t i n → Reaches (view_of s.heap) es (needs_of s.queue.needs) Flush 0 0 t i (entry es n)
