-- What is remembered of a thread's event, and when the run is stuck.
use Rattle.std.specs.Prelude.{◌≡◌, ◌≢◌, ◌⊎◌, ℕ, List, [], ◌∷◌, ◌++◌, Some, None, IsSome}
use Rattle.ap_base.specs.declared.reference.Ref.{Ref}
use Rattle.ap_base.specs.declared.reference.Item.{Item}
use Rattle.run_types.specs.declared.wait.On.{On}
use Rattle.graph_model.specs.declared.types.Root.{Root}
use Rattle.natives.specs.declared.requests.Request.{Request}
use Rattle.natives.specs.declared.requests.Reply.{Reply}
use Rattle.run_history.specs.declared.act.Op.TheVariants as op
use Rattle.run_history.specs.Recorded.{Recorded}
use Rattle.plain_model.specs.Facts.{SetFacts}
use Rattle.run_forms.specs.Laws.{answered_threads}
use Rattle.run_forms.specs.Views.{ThreadFrames}
use Rattle.convert_words.specs.Scenes.{AgreesAt}
use Rattle.convert_waits.specs.Stuck.{HoldsWait, IsStuckAt}
use Rattle.twin_forms.specs.Table.{Entry}
use Rattle.machine_threads.specs.Passed.{Nothing}
use Rattle.machine_threads.specs.Passed.{Opening, doing_of, scene_of}
use Rattle.machine_threads.specs.Passed.{Asks, Begins}
use Rattle.machine_threads.specs.Plain.{asks_some}
use Rattle.machine_threads.specs.Stuck.{plain_waits, requests_in}
use Rattle.machine_threads.specs.Testing.{AllWaitStill}
use Rattle.shared_heap.specs.Notes.{AreOf64, answered, asked_by, asking, waiting, waits_on}
use Rattle.shared_heap.specs.Shared.{Shared}
use Rattle.machine.specs.declared.events.Event.{Event}
use Rattle.machine.specs.declared.events.Event.TheVariants.{Did, Micro, WouldWait, Over}
use Rattle.machine.specs.declared.events.Halt.TheVariants.{Met, Stuck}
use Rattle.machine.specs.Events.{IsOver, KeepsRows, NotesStart, StartsNone}
use Rattle.machine.specs.Halts.{fault_of_halt}
use Rattle.machine.specs.Running.{IsDue, IsRunning, RemembersAsked}

-- ---- before an event

-- The heap without what is noted of thread t.
abbrev pub without_notes : Shared → ℕ → Shared
without_notes s t = record s { notes = answered s.notes t }

-- Thread t's event is next, for the request that its frames ask. What is remembered of all others is so.
pub record IsNext (o : Opening) (first : ℕ) (set : SetFacts) (s : Shared) (es : List Entry)
    (threads : List ThreadFrames) (t : ℕ) (fs : ThreadFrames) (request : Request Ref Item) : Type 0 where
  pub due : IsDue o first set s es threads t fs request
  pub asked : RemembersAsked o (without_notes s t) es threads

-- ---- when a run is stuck

-- The last event of each live thread waited, and each of these waits holds.
abbrev pub IsStuckNow : Opening → Shared → List Entry → Type 0
IsStuckNow o s es = IsStuckAt (plain_waits o s.machine) (asks_some (requests_in o s.machine)) (scene_of s.machine) es
    (waits_on s.notes)

-- ---- after it

-- The request is answered by an act, and the thread is about nothing. The run goes on with the thread's frames answered,
-- and with those of a thread that the act starts.
pub record Answers (o : Opening) (first : ℕ) (r : Reply Ref Item) (old new : Shared) (threads : List ThreadFrames)
    (t : ℕ) (fs : ThreadFrames) (request : Request Ref Item) : Type 0 where
  pub after : List Entry
  pub act : Recorded
  pub acts : new.machine.acts ≡ old.machine.acts ++ act ∷ []
  pub running : (begun : List ThreadFrames) → Begins o new.machine act.act.op begun
      → IsRunning o first new after (answered_threads o.launch threads t fs r begun)
  pub starts : StartsNone request → Begins o new.machine act.act.op []
  pub started : (n child : ℕ) → act.act.op ≡ op.Start n child → NotesStart o act.act.op child old new
  pub idle : doing_of new.machine t ≡ Nothing

-- The thread asks the same still, and so do all others.
pub record GoesOnAsking (o : Opening) (first : ℕ) (old new : Shared) (threads : List ThreadFrames) : Type 0 where
  pub after : List Entry
  pub running : IsRunning o first new after threads
  pub asks : (u : ℕ) (gs : ThreadFrames) (request : Request Ref Item) → Asks o old.machine threads u gs request
      → Asks o new.machine threads u gs request

-- It waits: by some table of the heap's objects the wait holds; and the run isn't stuck.
pub record GoesOnWaiting (o : Opening) (first : ℕ) (on : On) (old new : Shared) (threads : List ThreadFrames) (t : ℕ)
    : Type 0 where
  pub asks : GoesOnAsking o first old new threads
  pub table : List Entry
  pub agrees : AgreesAt (scene_of new.machine) table
  pub holds : HoldsWait (plain_waits o new.machine) (scene_of new.machine) table t on
  pub unstuck : IsStuckNow o new asks.after → ⊥
  pub rows : KeepsRows o t on old.machine new.machine

-- It waits, and so does each thread that lives: that is by what the run is over.
pub record IsStuckIn (o : Opening) (first : ℕ) (old new : Shared) (threads : List ThreadFrames) (t : ℕ) : Type 0
  where
    pub over : IsOver o first (fault_of_halt new Stuck) old new threads t
    pub stuck : IsStuckNow o new over.after

abbrev pub LeadsTo : Opening → ℕ → Event → Shared → Shared → List ThreadFrames → ℕ → ThreadFrames → Request Ref Item
    → Type 0
LeadsTo o first (Did r) old new threads t fs request = Answers o first r old new threads t fs request
LeadsTo o first Micro old new threads t fs request = GoesOnAsking o first old new threads
LeadsTo o first (WouldWait on) old new threads t fs request = GoesOnWaiting o first on old new threads t
LeadsTo o first (Over (Met f)) old new threads t fs request = IsOver o first (fault_of_halt new (Met f)) old new threads t
LeadsTo o first (Over Stuck) old new threads t fs request = IsStuckIn o first old new threads t

-- ---- what is remembered

-- Of the thread itself: an answered request is forgotten; another is kept, with the wait of an event that waits.
abbrev pub RemembersOwn : Event → ℕ → Request Ref Item → Shared → Type 0
RemembersOwn (Did r) t request s = (asked_by s.notes t ≡ None) × (waits_on s.notes t ≡ None)
RemembersOwn Micro t request s = (asked_by s.notes t ≡ Some request) × (waits_on s.notes t ≡ None)
RemembersOwn (WouldWait on) t request s = (asked_by s.notes t ≡ Some request) × (waits_on s.notes t ≡ Some on)
RemembersOwn (Over Stuck) t request s = (asked_by s.notes t ≡ Some request) × IsSome (waits_on s.notes t)
RemembersOwn (Over (Met f)) t request s = Unit {0}

-- Of all others it is as it was.
pub record Remembers (result : Event) (t : ℕ) (request : Request Ref Item) (old new : Shared) : Type 0 where
  pub own : RemembersOwn result t request new
  pub asked : (u : ℕ) → u ≢ t → asked_by new.notes u ≡ asked_by old.notes u
  pub waits : (u : ℕ) → u ≢ t → waits_on new.notes u ≡ waits_on old.notes u

-- ---- in code

-- Each live thread's last event waited in the plain world, and its step would wait for the same now, whatever the durable roots.
abbrev pub AllWait : SetFacts → List Root → Shared → Type 0
AllWait set roots s = AllWaitStill set s.machine roots (asked_by s.notes) (waits_on s.notes)

-- some run is so, of this set, and its acts can be counted
abbrev pub IsSomeRunning : SetFacts → Shared → Type 0
IsSomeRunning set s = (o : Opening) × (first : ℕ) × (es : List Entry) × (threads : List ThreadFrames)
    × IsRunning o first s es threads × (set ≡ o.launch.set)

-- What is noted of an event of thread t that came to this, and what it comes to then: where it waits and all others do, the
-- run is stuck.
abbrev pub NotesEvent : SetFacts → ℕ → Request Ref Item → (came result : Event) → (old new : Shared) → Type 0
NotesEvent set t request (Did r) result old new =
    (result ≡ Did r) × (new ≡ record old { notes = answered old.notes t })
NotesEvent set t request Micro result old new =
    (result ≡ Micro) × (new ≡ record old { notes = asking old.notes t request }) × AreOf64 new.notes
NotesEvent set t request (WouldWait on) result old new =
    (new ≡ record old { notes = waiting (asking old.notes t request) t on }) × AreOf64 new.notes
    × (((result ≡ Over Stuck) × ((roots : List Root) → AllWait set roots new))
    ⊎ ((result ≡ WouldWait on) × ((roots : List Root) → AllWait set roots new → ⊥)))
NotesEvent set t request (Over halt) result old new = (result ≡ Over halt) × (new ≡ old)
