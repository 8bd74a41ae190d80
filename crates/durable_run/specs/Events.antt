-- What an event of a thread leaves of a run, and what it tells the outside.
use Rattle.std.specs.Prelude.{◌≡◌, ◌≢◌, ◌⊎◌, ℕ, ◌+◌, ◌<◌, ◌≤◌, true, List, ◌++◌, All, length, slice_get, slice_set, Option, Some, None, IsSome}
use Rattle.ap_base.specs.declared.reference.Ref.{Ref}
use Rattle.ap_base.specs.declared.reference.Item.{Item}
use Rattle.run_types.specs.declared.fault.RunFault.{RunFault}
use Rattle.run_types.specs.declared.wait.On.{On}
use Rattle.natives.specs.declared.methods.Native.{Native}
use Rattle.natives.specs.declared.requests.Request.{Request}
use Rattle.natives.specs.declared.requests.Reply.TheVariants as reply
use Rattle.natives.specs.declared.states.NativeState.{NativeState}
use Rattle.run_history.specs.Recorded.{Recorded}
use Rattle.plain_model.specs.Facts.{SetFacts}
use Rattle.frames.specs.Settings.{Setting}
use Rattle.frames.specs.Turns.{begun_thread}
use Rattle.frame_steps.specs.Sized.{AreOf}
use Rattle.private_steps.specs.declared.coming.Come.{Come}
use Rattle.private_steps.specs.Ahead.{HasCome}
use Rattle.run_forms.specs.Views.{ThreadFrames}
use Rattle.run_forms.specs.Standing.{setting_of}
use Rattle.twin_forms.specs.Table.{Entry}
use Rattle.machine.specs.Passed.{Machine, Opening, memory_of}
use Rattle.machine.specs.Passed.{IsSilent, SameImage, Shared, asked_by, measure, plain_waits, waits_on}
use Rattle.machine.specs.declared.events.Event.{Event}
use Rattle.machine.specs.declared.events.Event.TheVariants as event
use Rattle.machine.specs.declared.events.Halt.TheVariants.{Met, Stuck}
use Rattle.machine.specs.Halts.{fault_of_halt}
use Rattle.machine.specs.Events.{AddsOne, CallsAtMostOnce, FindsConversion, FindsWait, LeavesOthers, logs_word}
use Rattle.machine.specs.Remembering.{GoesOnWaiting, IsNext}
use Rattle.durable_run.specs.Telling.{AddsShare, HasTold, IsCaused, LeavesShares}
use Rattle.durable_run.specs.Turning.{AsksListed, EndsAt, HasFrames, IsReady, is_live}
use Rattle.durable_run.specs.declared.steps.Stepped.{Stepped}
use Rattle.durable_run.specs.declared.steps.Stepped.TheVariants.{Acted, Micro, WouldWait, Over}

-- ---- the outside

-- What the watcher has seen, what the sink has taken and takes now, and how often it has failed.
pub record Outside : Type 0 where
  pub seen : Option (List Recorded)
  pub taken : Option (List ℕ)
  pub takes : ℕ → ℕ → Option ℕ
  pub faults : ℕ

abbrev pub outside : Option (List Recorded) → Option (List ℕ) → (ℕ → ℕ → Option ℕ) → ℕ → Outside
outside seen taken takes faults =
    record { seen = seen; taken = taken; takes = takes; faults = faults }

-- The outside was told the further acts. One that printed, printed its share; and the run is over
-- by the sink or the image exactly where that failed, once.
pub record Tells (request : Request Ref Item) (over : Option RunFault) (old new : Shared) (out out' : Outside)
    : Type 0 where
  pub told : HasTold old.history.acts new.history.acts out.seen out'.seen out.taken out'.taken
  pub share : AddsShare (Some request) (out.takes 0) old.history.acts new.history.acts
  pub leaves : LeavesShares out.takes out'.takes old.history.acts new.history.acts
  pub cause : IsCaused over out.faults out'.faults (memory_of old.machine).faults
      (memory_of new.machine).faults

-- ---- a request that is next

-- The event of thread t is next, for this request, which its turn asked of these frames; some table says where the objects
-- lie, and with these frames of all threads the machine goes on as the plain run does.
pub record HasAsked (o : Opening) (first : ℕ) (set : SetFacts) (x : Setting Native Ref (NativeState Ref) Item)
    (s : Shared) (frames : List ThreadFrames) (t : ℕ) (request : Request Ref Item) : Type 0 where
  pub setting : x ≡ setting_of o.launch
  pub table : List Entry
  pub threads : List ThreadFrames
  pub before : ThreadFrames
  pub next : IsNext o first set s table threads t before request
  pub own : HasFrames x (Some request) frames t before
  pub others : (u : ℕ) (fs : ThreadFrames) → u ≢ t → slice_get threads u ≡ Some fs
      → HasFrames x (asked_by s.notes u) frames u fs
  pub many : length frames ≡ 64
  pub arrays : AsksListed o s.machine

-- Thread t's turn has begun: of these frames, with which an event might come, and it has come so far without an event.
pub record HasBegun (o : Opening) (first : ℕ) (set : SetFacts) (x : Setting Native Ref (NativeState Ref) Item)
    (s : Shared) (frames : List ThreadFrames) (t : ℕ) (came : Come Ref) (before now : ThreadFrames) : Type 0 where
  pub ready : IsReady o first set x s frames
  pub there : slice_get frames t ≡ Some before
  pub unasked : asked_by s.notes t ≡ None
  pub live : is_live s.machine.rest.threads t ≡ true
  pub come : HasCome x came before now
  pub of : AreOf x.program now.frames

-- ---- frames that begin

-- with the frames of thread t, if it begins with this reference to its Thread object
abbrev pub with_begun : List ThreadFrames → ℕ → Option Ref → List ThreadFrames
with_begun frames t None = frames
with_begun frames t (Some thread) = slice_set frames t (begun_thread thread)

-- ---- what was done

-- The fault by which the run is over, if it is.
abbrev pub fault_in_event : Shared → Event → Option RunFault
fault_in_event s (event.Over halt) = Some (fault_of_halt s halt)
fault_in_event s other = None

abbrev pub fault_of : Shared → Stepped → Option RunFault
fault_of s (Over halt) = Some (fault_of_halt s halt)
fault_of s went = None

-- The thread waits for this, by some frames of the threads: the run isn't stuck, and a row of waits goes on with this one.
abbrev pub WaitsOn : Opening → ℕ → On → Shared → Shared → ℕ → Type 0
WaitsOn o first on old new t = (threads : List ThreadFrames) × GoesOnWaiting o first on old new threads t

-- An event of thread t leaves the run so that an event of each live thread may come; or the run is over by a fault of its
-- own.
abbrev pub StepsTo : Opening → ℕ → SetFacts → Setting Native Ref (NativeState Ref) Item → ℕ → Stepped → Shared → Shared
    → List ThreadFrames → Type 0
StepsTo o first set x t (WouldWait on) old new frames =
    IsReady o first set x new frames × WaitsOn o first on old new t
StepsTo o first set x t (Over halt) old new frames = EndsAt o first t (fault_of_halt new halt) new
StepsTo o first set x t went old new frames = IsReady o first set x new frames

-- The same behind the events of so many pauses of thread t: from some heap the last event leads on so, from the one before where there are
-- none.
abbrev pub StepsBehind : (pauses : ℕ) → Opening → ℕ → SetFacts → Setting Native Ref (NativeState Ref) Item → ℕ → Stepped
    → Shared → Shared → List ThreadFrames → Type 0
StepsBehind pauses o first set x t went old new frames =
    (mid : Shared) × (pauses ≡ 0 → mid ≡ old) × StepsTo o first set x t went mid new frames

-- further acts, all of the thread
pub record AddsFurther (t : ℕ) (old new : List Recorded) : Type 0 where
  pub further : List Recorded
  pub acts : new ≡ old ++ further
  pub own : All (λ (a : Recorded). a.act.thread ≡ t) further

-- one act of the thread where it acted, none where it waits or the run is over, and one or none otherwise
abbrev pub AddsBy : Stepped → ℕ → List Recorded → List Recorded → Type 0
AddsBy Acted t old new = AddsOne t old new
AddsBy Micro t old new = (new ≡ old) ⊎ AddsOne t old new
AddsBy went t old new = new ≡ old

-- So many events of so many pauses were made: each, unless the run is over, which one of them may have ended.
abbrev pub CountsPauses : Stepped → (made pauses : ℕ) → Type 0
CountsPauses (Over halt) made pauses = made ≤ pauses
CountsPauses went made pauses = made ≡ pauses

-- one act of thread t for each of so many pauses, and behind them what its last event, which went so, adds
pub record AddsBehind (pauses : ℕ) (went : Stepped) (t : ℕ) (old new : List Recorded) : Type 0 where
  pub mid : List Recorded
  pub paused : AddsFurther t old mid
  pub count : CountsPauses went (length mid) (length old + pauses)
  pub last : AddsBy went t mid new

-- An event that adds no act leaves less to do; one that waits, no more.
abbrev pub LeavesLess : Stepped → Shared → Shared → Type 0
LeavesLess Micro old new =
    new.history.acts ≡ old.history.acts → measure new.machine < measure old.machine
LeavesLess (WouldWait on) old new = measure new.machine ≤ measure old.machine
LeavesLess went old new = Unit {0}

-- Of thread t itself: what it asked is forgotten once that is done; else it is kept, with the wait of an event that waits.
abbrev pub RemembersOwn : Stepped → ℕ → (asks : Option (Request Ref Item)) → Shared → Type 0
RemembersOwn Acted t asks s = (asked_by s.notes t ≡ None) × (waits_on s.notes t ≡ None)
RemembersOwn Micro t asks s = (asked_by s.notes t ≡ asks) × (waits_on s.notes t ≡ None)
RemembersOwn (WouldWait on) t asks s = (asked_by s.notes t ≡ asks) × (waits_on s.notes t ≡ Some on)
RemembersOwn (Over Stuck) t asks s = (asked_by s.notes t ≡ asks) × IsSome (waits_on s.notes t)
RemembersOwn (Over (Met f)) t asks s = Unit {0}

-- What is noted of the threads after an event of thread t, whose turn asks this: of all others it is as it was.
pub record RemembersAfter (t : ℕ) (asks : Option (Request Ref Item)) (went : Stepped) (old new : Shared) : Type 0
  where
    pub own : RemembersOwn went t asks new
    pub asked : (u : ℕ) → u ≢ t → asked_by new.notes u ≡ asked_by old.notes u
    pub waits : (u : ℕ) → u ≢ t → waits_on new.notes u ≡ waits_on old.notes u

-- ---- whose step it is, and what it leaves alone

-- the machine's event that comes to the same; which reply it gave isn't told
abbrev pub event_of : Stepped → Event
event_of Acted = event.Did reply.Done
event_of Micro = event.Micro
event_of (WouldWait on) = event.WouldWait on
event_of (Over halt) = event.Over halt

-- What an event of thread t says of what its thread waits for, in the plain world and for a conversion, as `machine::event` does.
pub record FindsItsWait (o : Opening) (t : ℕ) (went : Stepped) (old : Machine) : Type 0 where
  pub plain : FindsWait (logs_word old t) (event_of went) (plain_waits o old t)
  pub conversion : FindsConversion o old t (event_of went)

-- what was asked isn't done, and the run goes on
abbrev pub AsksStill : Stepped → Type 0
AsksStill Micro = Unit {0}
AsksStill (WouldWait on) = Unit {0}
AsksStill went = ⊥

-- nothing is asked, or something that isn't a print
abbrev pub PrintsNothing : Option (Request Ref Item) → Type 0
PrintsNothing None = Unit {0}
PrintsNothing (Some request) = IsSilent request

-- What an event of thread t, whose turn asks this, leaves alone. That the sink is the one that was there stands for itself.
pub record LeavesAlone (t : ℕ) (asks : Option (Request Ref Item)) (went : Stepped) (old new : Shared) (SameSink : Type 0)
    : Type 0 where
  -- it calls the image once at most, or else the sink
  pub calls : CallsAtMostOnce old new
  pub either : SameImage (memory_of old.machine) (memory_of new.machine) ⊎ SameSink
  -- Only a print calls the sink, which answers it or ends the run.
  pub unanswered : AsksStill went → SameSink
  pub silent : PrintsNothing asks → SameSink
  pub others : LeavesOthers (event_of went) t old.machine new.machine
