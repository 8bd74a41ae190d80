-- What an event of a conversion comes to, exactly.
use Rattle.std.specs.Prelude.{◌≡◌, ◌≢◌, ◌⊎◌, ◌↔◌, ℕ, ◌+◌, ◌-◌, ◌*◌, ◌<◌, ◌≤◌, min, true, List, [], length, Option, None, Some}
use Rattle.std.specs.Prelude.{slice_get, slice_index}
use Rattle.monitors.specs.declared.monitor.Monitor.{Monitor}
use Rattle.twin_forms.specs.Table.{Entry, entry, lines_of, HasCopied, IsClaimed, InP}
use Rattle.twin_forms.specs.Sights.{Twin}
use Rattle.convert_queue.specs.declared.phase.Phase.{Phase}
use Rattle.convert_queue.specs.declared.phase.Phase.TheVariants.{Copy, Repair, Flush}
use Rattle.convert_queue.specs.Marks.{IsStored}
use Rattle.convert_queue.specs.Queues.{Queued, Queues, IsSettled, IsLeastUnsettled, queue_of, place_of, phase_of}
use Rattle.convert_queue.specs.Threads.{has, IsGroupOf}
use Rattle.convert_queue.specs.Work.{work_left}
use Rattle.convert_words.specs.declared.step.ConvertStep.{ConvertStep}
use Rattle.convert_words.specs.declared.step.ConvertStep.TheVariants as step
use Rattle.convert_words.specs.Agreeing.{Is, item_in}
use Rattle.convert_words.specs.Converting.{IsLineOf, Lacks, Waits, Converts}
use Rattle.convert_words.specs.Scenes.{Scene, AgreesAt}
use Rattle.convert_words.specs.Steps.{told}
use Rattle.converter.specs.declared.begin.Begun.{Begun}
use Rattle.converter.specs.declared.begin.Begun.TheVariants as begun
use Rattle.converter.specs.Beginning.{Begins}
use Rattle.converter.specs.Stepping.{Event}

-- A thread whose group is settled seals it: its event has no other answer, and the set is that group.
abbrev pub SettledGroupsAreSealed : Type 0
SettledGroupsAreSealed = (t set : ℕ) (answer : ConvertStep) (s s' : Scene) (es : List Entry) (ms ms' : List Monitor)
    → AgreesAt s es → IsGroupOf s.queue.needs t set → ((u : ℕ) → has set u ≡ true → IsSettled s.queue u)
    → Event t answer s s' es ms ms' → (x : ℕ) × (answer ≡ step.Sealed x) × IsGroupOf s.queue.needs t x

-- ---- who waits

-- An event whose place has come to a reference that it lacks waits for a thread that it lacks, or makes the line resident.
abbrev pub StoppedThreadsWait : Type 0
StoppedThreadsWait = (t u : ℕ) (answer : ConvertStep) (s s' : Scene) (es : List Entry) (ms ms' : List Monitor)
    → AgreesAt s es → (e : Event t answer s s' es ms ms') → Lacks e.at es t u
    → (answer ≡ step.Touched) ⊎ ((x : ℕ) × (answer ≡ step.Wait x) × Lacks e.at es t x)

-- A place that stood there before the event doesn't go past it.
abbrev pub LackingThreadsWait : Type 0
LackingThreadsWait = (t u : ℕ) (answer : ConvertStep) (s s' : Scene) (es : List Entry) (ms ms' : List Monitor)
    → AgreesAt s es → (e : Event t answer s s' es ms ms') → Lacks s es t u
    → (answer ≡ step.Touched) ⊎ ((x : ℕ) × (answer ≡ step.Wait x) × Lacks e.at es t x)

-- A settled thread waits for the least member of its group that isn't settled.
abbrev pub SettledThreadsWait : Type 0
SettledThreadsWait = (t u : ℕ) (answer : ConvertStep) (s s' : Scene) (es : List Entry) (ms ms' : List Monitor)
    → AgreesAt s es → Event t answer s s' es ms ms' → u < 64 → IsSettled s.queue t → IsLeastUnsettled s.queue t u
    → answer ≡ step.Wait u

-- No other thread waits: after the event the thread lacks the one that is named, by one or the other.
abbrev pub WaitingThreadsLack : Type 0
WaitingThreadsLack = (t u : ℕ) (s s' : Scene) (es : List Entry) (ms ms' : List Monitor)
    → Event t (step.Wait u) s s' es ms ms' → AgreesAt s' es × Waits s' es t u

-- ---- what a seal makes durable

-- the number of the object at an index of the space
abbrev pub number_at : Scene → ℕ → ℕ
number_at s at = slice_index s.heap.space.words (at + 2)

-- After a seal exactly these objects are durable that weren't before: those that its threads had queued before the event.
abbrev pub SealsNameQueues : Type 0
SealsNameQueues = (t set : ℕ) (s s' : Scene) (es : List Entry) (ms ms' : List Monitor)
    → AgreesAt s es → (e : Event t (step.Sealed set) s s' es ms ms') → (n : ℕ)
    → (InP e.after n × (InP es n → ⊥))
    ↔ ((u i : ℕ) × (has set u ≡ true) × (i < length (queue_of s.queue u)) × (number_at s (item_in s.queue.queues u i).0 ≡ n))

-- Queues hold each number once.
abbrev pub QueuesNameOnce : Type 0
QueuesNameOnce = (s : Scene) (es : List Entry) (t u i j : ℕ) → AgreesAt s es
    → i < length (queue_of s.queue t) → j < length (queue_of s.queue u)
    → number_at s (item_in s.queue.queues t i).0 ≡ number_at s (item_in s.queue.queues u j).0 → (t ≡ u) × (i ≡ j)

-- ---- the work that is left, as convert_queue counts it

-- The function tells how many lines each claimed object has, by its index.
abbrev pub Tells : (ℕ → ℕ) → List Entry → Type 0
Tells lines es = (t n : ℕ) → IsClaimed es t n → lines (entry es n).at ≡ lines_of (entry es n)

-- A line that is copied takes one: itself, where what is left of its write is counted by its mark from then on.
abbrev pub CopiesTakeWork : Type 0
CopiesTakeWork = (lines done done' : ℕ → ℕ) (t : ℕ) (s s' : Scene) (es es' : List Entry) → t < 64 → AgreesAt s es → Tells lines es
    → done t ≡ (place_of s.queue t).1 → done' t ≡ done t + 1 → ((u : ℕ) → u ≢ t → done' u ≡ done u)
    → Converts t step.CopiedLine s s' es es' → work_left lines done' s'.queue + 1 ≡ work_left lines done s.queue

-- A line that is written back takes one, and a fence one at least.
abbrev pub WritesTakeWork : Type 0
WritesTakeWork = (lines done : ℕ → ℕ) (t : ℕ) (s s' : Scene) (es es' : List Entry) → AgreesAt s es
    → Converts t step.WroteBack s s' es es' → work_left lines done s'.queue + 1 ≡ work_left lines done s.queue

abbrev pub FencesTakeWork : Type 0
FencesTakeWork = (lines done : ℕ → ℕ) (t : ℕ) (s s' : Scene) (es es' : List Entry) → AgreesAt s es
    → Converts t step.Fenced s s' es es' → work_left lines done s'.queue < work_left lines done s.queue

-- An object that is forwarded takes one, where exactly its lines are copied.
abbrev pub ForwardsTakeWork : Type 0
ForwardsTakeWork = (lines done done' : ℕ → ℕ) (t : ℕ) (s s' : Scene) (es es' : List Entry) → t < 64
    → ((n : ℕ) → Is s.queue es t (place_of s.queue t).0 n → done t ≡ lines (entry es n).at)
    → done' t ≡ 0 → ((u : ℕ) → u ≢ t → done' u ≡ done u)
    → Converts t step.Forwarded s s' es es' → work_left lines done' s'.queue + 1 ≡ work_left lines done s.queue

-- A line that is repaired takes one, where its thread has stored to it since its last write, as it has since the copy.
abbrev pub RepairsTakeWork : Type 0
RepairsTakeWork = (lines done done' : ℕ → ℕ) (t : ℕ) (s s' : Scene) (es es' : List Entry) → t < 64 → AgreesAt s es → Tells lines es
    → ((n : ℕ) → Is s.queue es t (place_of s.queue t).0 n → IsStored s.queue.marks t ((entry es n).line + (place_of s.queue t).1))
    → done t ≡ (place_of s.queue t).1 → done' t ≡ done t + 1 → ((u : ℕ) → u ≢ t → done' u ≡ done u)
    → Converts t step.Repaired s s' es es' → work_left lines done' s'.queue + 1 ≡ work_left lines done s.queue

-- ---- the lines that a thread has written

-- Before its flush a thread writes none of its lines back: it has stored to each copied one since its last write.
abbrev pub AreUnwritten : Queues → List Entry → Type 0
AreUnwritten q es = (t n c : ℕ) → IsClaimed es t n → phase_of q t ≢ Flush → c < lines_of (entry es n) → HasCopied (entry es n) c
    → IsStored q.marks t ((entry es n).line + c)

-- It is so where nobody has claimed an object, and it stays so by the beginning of a conversion, by each event, and by each
-- store of the program to a line of a queued object, of which the queue is told.
abbrev pub FirstLinesAreUnwritten : Type 0
FirstLinesAreUnwritten = (q : Queues) (es : List Entry) → ((n : ℕ) → n < length es → (entry es n).owner ≡ 0) → AreUnwritten q es

abbrev pub BeginningsStayUnwritten : Type 0
BeginningsStayUnwritten = (t m : ℕ) (answer : Begun) (s s' : Scene) (es es' : List Entry) → AgreesAt s es → queue_of s.queue t ≡ []
    → Begins t m answer s s' es es' → AreUnwritten s.queue es → AreUnwritten s'.queue es'

abbrev pub EventsStayUnwritten : Type 0
EventsStayUnwritten = (t : ℕ) (answer : ConvertStep) (s s' : Scene) (es : List Entry) (ms ms' : List Monitor) → AgreesAt s es
    → (e : Event t answer s s' es ms ms') → AreUnwritten s.queue es → AreUnwritten s'.queue e.after

abbrev pub StoresStayUnwritten : Type 0
StoresStayUnwritten = (s : Scene) (es : List Entry) (t l : ℕ) → AgreesAt s es → IsLineOf es t l
    → AreUnwritten s.queue es → AreUnwritten (told s.queue t l) es

-- ---- the work of a scene

-- how many lines of a queued object are copied, in phase Copy, or repaired, in phase Repair
abbrev pub done_in : (ℕ → ℕ) → List ℕ → Phase → ℕ → Queued → ℕ
done_in lines copies Copy l x = min (slice_index copies x.1) (lines x.0)
done_in lines copies Repair l x = min l (lines x.0)
done_in lines copies Flush l x = 0

abbrev pub done_of : (ℕ → ℕ) → List ℕ → Phase → ℕ → Option Queued → ℕ
done_of lines copies p l None = 0
done_of lines copies p l (Some x) = done_in lines copies p l x

-- of the object at a thread's place, if one stands there
abbrev pub done_at : (ℕ → ℕ) → List ℕ → Queues → ℕ → ℕ
done_at lines copies q t = done_of lines copies (phase_of q t) (place_of q t).1 (slice_get (queue_of q t) (place_of q t).0)

abbrev pub work_of : (ℕ → ℕ) → Scene → ℕ
work_of lines s = work_left lines (done_at lines s.heap.marks.copies s.queue) s.queue

-- one for a quiet step: it claims, copies, forwards, repairs, writes or fences
abbrev pub quiet : ConvertStep → ℕ
quiet step.Claimed = 1
quiet step.CopiedLine = 1
quiet step.Forwarded = 1
quiet step.Repaired = 1
quiet step.WroteBack = 1
quiet step.Fenced = 1
quiet step.Touched = 0
quiet (step.Sealed set) = 0
quiet (step.Wait u) = 0
quiet (step.Full need left) = 0

-- the beginning of a conversion claims, or needs a thread, which is no step yet
abbrev pub quiet_begun : Begun → ℕ
quiet_begun begun.Claimed = 1
quiet_begun (begun.Needs u) = 0
quiet_begun (begun.Full need left) = 0

-- Each event leaves at most the work that there was, less one where it is a quiet step, and 16 more for each line that a claim takes.
abbrev pub EventsTakeWork : Type 0
EventsTakeWork = (lines : ℕ → ℕ) (t : ℕ) (answer : ConvertStep) (s s' : Scene) (es : List Entry) (ms ms' : List Monitor) → t < 64
    → AgreesAt s es → AreUnwritten s.queue es → (e : Event t answer s s' es ms ms') → Tells lines es → Tells lines e.after
    → work_of lines s' + quiet answer ≤ work_of lines s + 16 * (s'.free - s.free)

-- So does the beginning of a conversion. A store to a line of a queued object leaves two more.
abbrev pub BeginningsAddWork : Type 0
BeginningsAddWork = (lines : ℕ → ℕ) (t m : ℕ) (answer : Begun) (s s' : Scene) (es es' : List Entry) → t < 64 → AgreesAt s es
    → queue_of s.queue t ≡ [] → m < length es → Tells lines es' → Begins t m answer s s' es es'
    → work_of lines s' + quiet_begun answer ≤ work_of lines s + 16 * (s'.free - s.free)

abbrev pub StoresAddWork : Type 0
StoresAddWork = (lines : ℕ → ℕ) (t l : ℕ) (s : Scene) (heap : Twin) (es : List Entry) → AgreesAt s es → IsLineOf es t l
    → heap.marks ≡ s.heap.marks → work_of lines (record s { heap = heap; queue = told s.queue t l }) ≤ work_of lines s + 2
