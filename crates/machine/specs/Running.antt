-- Threads that run over a shared heap: what is so between their events.
use Rattle.std.specs.Prelude.{◌≡◌, ℕ, ◌+◌, ◌-◌, ◌<◌, ◌≤◌, false, List, [], ◌∷◌, ◌++◌, length, Option, Some, None}
use Rattle.ap_base.specs.declared.reference.Ref.{Ref}
use Rattle.ap_base.specs.declared.reference.Item.{Item}
use Rattle.natives.specs.declared.requests.Request.{Request}
use Rattle.natives.specs.declared.requests.Request.TheVariants as ask
use Rattle.run_history.specs.Recorded.{Recorded}
use Rattle.plain_model.specs.Facts.{SetFacts, class_at, class_count}
use Rattle.run_forms.specs.Views.{ThreadFrames}
use Rattle.run_forms.specs.Standing.{Launch}
use Rattle.run_forms.specs.Ends.{MeetsNoFault}
use Rattle.convert_queue.specs.Queues.{total}
use Rattle.twin_forms.specs.Table.{Entry}
use Rattle.machine_threads.specs.Passed.{Opening, Machine, memory_of}
use Rattle.machine_threads.specs.Passed.{KeepsRun}
use Rattle.machine_threads.specs.Passed.{IsListed}
use Rattle.machine_threads.specs.Passed.{Asks, RunsAsPlain}
use Rattle.machine_threads.specs.Passed.{TakesLines}
use Rattle.machine_threads.specs.Passed.{HasUnwritten}
use Rattle.machine_threads.specs.Keeping.{AllKeep}
use Rattle.machine_threads.specs.Testing.{AreNoted}
use Rattle.shared_heap.specs.Notes.{asked_by, waits_on}
use Rattle.shared_heap.specs.Shared.{Shared}

-- ---- requests

-- The class of which a request makes an object where no `new` names it: an array type, or a throwable's
-- class.
abbrev pub asked_class : Request Ref Item → Option ℕ
asked_class (ask.NewArray from shape count) = Some shape
asked_class (ask.Raise from class) = Some class
asked_class request = None

-- ---- what is so between events

-- Each class of the set but the interfaces has a shape that the image's directory has.
abbrev pub ListsClasses : Opening → Machine → Type 0
ListsClasses o m = (n : ℕ) → n < class_count o.launch.set → (class_at o.launch.set n).is_interface ≡ false
    → IsListed o m n

-- Before each of these acts the history had room, and by what acts tell the event of its thread ended the run
-- by no fault, however many lines an image has for objects.
abbrev pub HadNoFault : Launch → List Recorded → Type 0
HadNoFault launch acts = (lines : ℕ) (front : List Recorded) (a : Recorded) (rest : List Recorded)
    → acts ≡ front ++ a ∷ rest
    → MeetsNoFault launch lines front a.act.thread

-- The machine keeps its run, and with these frames of its threads, the first thread's first, it runs as the plain
-- machine does; each thread keeps its own. `first` is the first line that was free when the run began.
pub record Runs (o : Opening) (first : ℕ) (s : Shared) (es : List Entry) (threads : List ThreadFrames) : Type 0
  where
    pub keeps : KeepsRun o s.machine es
    pub plain : RunsAsPlain o s.machine threads
    pub taken : TakesLines o first s.machine es
    pub from : first ≤ (memory_of s.machine).size
    pub unwritten : HasUnwritten s.machine es
    pub all : AllKeep o s.machine es threads
    pub many : length threads ≡ length s.machine.rest.threads
    pub few : length threads ≤ 64
    pub lines : s.lines ≡ (memory_of s.machine).size
    pub acts : s.history.acts ≡ s.machine.acts
    pub limit : s.history.limit ≡ o.launch.limits.acts
    -- names are given as a group is sealed
    pub unnamed : s.history.named ≡ []
    -- an object can be named for each that is claimed, and for each line that is left
    pub room : total s.machine.queue.queues + ((memory_of s.machine).size - s.machine.free) ≤ s.history.room
    pub listed : ListsClasses o s.machine
    pub unfaulted : HadNoFault o.launch s.machine.acts

-- What is kept of each thread's last event is so.
abbrev pub RemembersAsked : Opening → Shared → List Entry → List ThreadFrames → Type 0
RemembersAsked o s es threads = AreNoted o s.machine es threads (asked_by s.notes) (waits_on s.notes)

-- Between events.
pub record IsRunning (o : Opening) (first : ℕ) (s : Shared) (es : List Entry) (threads : List ThreadFrames)
    : Type 0 where
  pub runs : Runs o first s es threads
  pub asked : RemembersAsked o s es threads

-- ---- an event may come

-- An event of thread t may come, for the request that its frames ask, over this class set.
pub record IsDue (o : Opening) (first : ℕ) (set : SetFacts) (s : Shared) (es : List Entry)
    (threads : List ThreadFrames) (t : ℕ) (fs : ThreadFrames) (request : Request Ref Item) : Type 0 where
  pub running : Runs o first s es threads
  pub asks : Asks o s.machine threads t fs request
  pub thread : t < 64
  pub made : (class : ℕ) → asked_class request ≡ Some class → IsListed o s.machine class
  pub facts : set ≡ o.launch.set
