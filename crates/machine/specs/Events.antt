-- What an event of a thread over a shared heap comes to.
use Rattle.std.specs.Prelude.{◌≡◌, ◌≢◌, ◌⊎◌, ℕ, ◌+◌, ◌-◌, ◌*◌, ◌<◌, ◌≤◌, Bool, false, List, [], ◌∷◌, ◌++◌, length, Option, Some, None, IfSome}
use Rattle.ap_base.specs.Causes.{next_count}
use Rattle.ap_base.specs.Sinks.{TakesBehind, with_bytes}
use Rattle.ap_base.specs.declared.reference.Ref.{Ref}
use Rattle.ap_base.specs.declared.reference.Item.{Item}
use Rattle.run_types.specs.declared.fault.RunFault.{RunFault}
use Rattle.run_types.specs.declared.fault.StepFault.TheVariants as met
use Rattle.run_types.specs.declared.wait.On.{On}
use Rattle.run_types.specs.declared.wait.On.TheVariants as on
use Rattle.run_types.specs.Faults.{run_fault}
use Rattle.natives.specs.declared.requests.Request.{Request}
use Rattle.natives.specs.declared.requests.Request.TheVariants as ask
use Rattle.natives.specs.declared.requests.Reply.{Reply}
use Rattle.graph_model.specs.declared.types.Value.TheVariants.{Obj as Object}
use Rattle.run_history.specs.declared.act.Op.{Op}
use Rattle.run_history.specs.declared.act.Op.TheVariants as op
use Rattle.run_history.specs.Knowing.{Pending, pending_of}
use Rattle.run_history.specs.Recorded.{Recorded}
use Rattle.plain_model.specs.Runs.{output_of}
use Rattle.frames.specs.Turns.{begun_thread}
use Rattle.line_memory.specs.Memory.{SameImage, OneCall}
use Rattle.run_forms.specs.Laws.{answered_threads}
use Rattle.run_forms.specs.Views.{ThreadFrames}
use Rattle.run_forms.specs.Ends.{IsEndedBy}
use Rattle.convert_words.specs.Scenes.{Scene, AgreesAt}
use Rattle.converter.specs.Laws.{AreUnwritten}
use Rattle.region_log.specs.Guarding.{is_adding}
use Rattle.convert_waits.specs.Rows.{BeginsToNeed, Why, InRow, on_of, with_wait}
use Rattle.convert_waits.specs.Stuck.{HoldsWait, IsPlain}
use Rattle.twin_forms.specs.Table.{Entry, InP}
use Rattle.machine_threads.specs.Passed.{Nothing, Converting}
use Rattle.machine_threads.specs.Passed.{Opening, Machine, doing_of, known_in, log_of, memory_of, scene_of}
use Rattle.machine_threads.specs.Passed.{KeepsRun}
use Rattle.machine_threads.specs.Passed.{Asks, Begins, IsReady, RunsAsPlain}
use Rattle.machine_threads.specs.Passed.{measure, work_left}
use Rattle.machine_threads.specs.Claiming.{HasForwarded}
use Rattle.machine_threads.specs.Stuck.{plain_waits}
use Rattle.shared_heap.specs.Conversions.{HasBegun}
use Rattle.shared_heap.specs.Notes.{started_as}
use Rattle.shared_heap.specs.Shared.{Shared}
use Rattle.machine.specs.declared.events.Event.{Event}
use Rattle.machine.specs.declared.events.Event.TheVariants.{Did, Micro, WouldWait, Over}
use Rattle.machine.specs.declared.events.Halt.TheVariants.{Met, Stuck}
use Rattle.machine.specs.Running.{Runs}

-- ---- what an event comes to

-- What thread t's event leaves to all others: each asks what it asked, is about the same, and what it has claimed is
-- forwarded still.
pub record SparesOthers (o : Opening) (t : ℕ) (old new : Machine) (es after : List Entry)
    (threads threads' : List ThreadFrames) : Type 0 where
  pub ask : (u : ℕ) (gs : ThreadFrames) (request : Request Ref Item) → u ≢ t → Asks o old threads u gs request
      → Asks o new threads' u gs request
  pub doing : (u : ℕ) → u ≢ t → doing_of new u ≡ doing_of old u
  pub forwarded : (u : ℕ) → u ≢ t → HasForwarded es u → HasForwarded after u

-- a request that starts no thread
abbrev pub StartsNone : Request Ref Item → Type 0
StartsNone (ask.Start from thread) = ⊥
StartsNone request = Unit {0}

-- A thread that an act starts is the next one; it is noted with the reference to its object with which it begins.
pub record NotesStart (o : Opening) (operation : Op) (child : ℕ) (old new : Shared) : Type 0 where
  pub next : child ≡ length old.machine.rest.threads
  pub thread : Ref
  pub noted : started_as new.notes child ≡ Some thread
  pub begins : Begins o new.machine operation (begun_thread thread ∷ [])

-- The request is answered by an act, and the thread is about nothing. A thread that the act starts has frames that begin
-- so.
pub record GoesOn (o : Opening) (first : ℕ) (r : Reply Ref Item) (old new : Shared) (es : List Entry)
    (threads : List ThreadFrames) (t : ℕ) (fs : ThreadFrames) (request : Request Ref Item) : Type 0 where
  pub after : List Entry
  pub act : Recorded
  pub acts : new.machine.acts ≡ old.machine.acts ++ act ∷ []
  pub runs : (begun : List ThreadFrames) → Begins o new.machine act.act.op begun
      → Runs o first new after (answered_threads o.launch threads t fs r begun)
  pub others : (begun : List ThreadFrames) → Begins o new.machine act.act.op begun
      → SparesOthers o t old.machine new.machine es after threads (answered_threads o.launch threads t fs r begun)
  pub starts : StartsNone request → Begins o new.machine act.act.op []
  pub started : (n child : ℕ) → act.act.op ≡ op.Start n child → NotesStart o act.act.op child old new
  pub idle : doing_of new.machine t ≡ Nothing

-- The thread asks the same still.
pub record AsksOn (o : Opening) (first : ℕ) (old new : Shared) (es : List Entry) (threads : List ThreadFrames)
    (t : ℕ) : Type 0 where
  pub after : List Entry
  pub runs : Runs o first new after threads
  pub own : (gs : ThreadFrames) (request : Request Ref Item) → Asks o old.machine threads t gs request
      → Asks o new.machine threads t gs request
  pub others : SparesOthers o t old.machine new.machine es after threads threads

-- a thread that is waited for is one of the 64
abbrev pub IsBelow : On → Type 0
IsBelow (on.Conversion u) = u < 64
IsBelow on = Unit {0}

-- A row of waits goes on with the wait of thread t for this, over whatever table of the heap's objects.
abbrev pub KeepsRows : Opening → ℕ → On → Machine → Machine → Type 0
KeepsRows o t on old new = (es : List Entry) (waited : ℕ → Option Why)
    → InRow (plain_waits o old) (scene_of old) es waited
    → (why : Why) × (on_of why ≡ on) × InRow (plain_waits o new) (scene_of new) es (with_wait waited t why)

-- The same from before the thread's conversion has begun, by a need, in the same event.
abbrev pub KeepsRowsByNeed : Opening → ℕ → On → Machine → Machine → Type 0
KeepsRowsByNeed o t on old new = doing_of old t ≡ Converting → HasBegun (scene_of old) t
    → (before : Scene) (es : List Entry) (waited : ℕ → Option Why) → InRow (plain_waits o old) before es waited
    → BeginsToNeed t before (scene_of old) es → AgreesAt (scene_of old) es → AreUnwritten old.queue es
    → (why : Why) × (on_of why ≡ on) × InRow (plain_waits o new) (scene_of new) es (with_wait waited t why)

-- It waits: by some table of the heap's objects the wait holds, and what it has claimed is forwarded.
pub record WaitsOn (o : Opening) (first : ℕ) (on : On) (old new : Shared) (es : List Entry)
    (threads : List ThreadFrames) (t : ℕ) : Type 0 where
  pub asks : AsksOn o first old new es threads t
  pub table : List Entry
  pub agrees : AgreesAt (scene_of new.machine) table
  pub holds : HoldsWait (plain_waits o new.machine) (scene_of new.machine) table t on
  pub forwarded : HasForwarded asks.after t
  pub ready : IsReady (doing_of new.machine t)
  pub below : IsBelow on
  pub rows : KeepsRows o t on old.machine new.machine
  pub needing : KeepsRowsByNeed o t on old.machine new.machine
  -- one that waits in the plain world has left the history as it was
  pub history : IsPlain on → new.history ≡ old.history

-- The run is over by this fault, which the event of the thread meets after the acts that were made; the machine
-- keeps its run still.
pub record IsOver (o : Opening) (first : ℕ) (f : RunFault) (old new : Shared) (threads : List ThreadFrames) (t : ℕ)
    : Type 0 where
  pub after : List Entry
  pub keeps : KeepsRun o new.machine after
  pub plain : RunsAsPlain o new.machine threads
  pub history : new.history ≡ old.history
  pub acts : new.machine.acts ≡ old.machine.acts
  pub ends : IsEndedBy o.launch ((memory_of new.machine).size - first) new.machine.acts t f

abbrev pub GoesTo : Opening → ℕ → Event → Shared → Shared → List Entry → List ThreadFrames → ℕ → ThreadFrames
    → Request Ref Item → Type 0
GoesTo o first (Did r) old new es threads t fs request = GoesOn o first r old new es threads t fs request
GoesTo o first Micro old new es threads t fs request = AsksOn o first old new es threads t
GoesTo o first (WouldWait on) old new es threads t fs request = WaitsOn o first on old new es threads t
GoesTo o first (Over (Met f)) old new es threads t fs request = IsOver o first (run_fault f) old new threads t
GoesTo o first (Over Stuck) old new es threads t fs request = ⊥

-- ---- whose step it is

-- whether a word is being logged for thread t
abbrev pub logs_word : Machine → ℕ → Bool
logs_word m t = is_adding (log_of m t).underway

-- What an event says of what its thread waits for in the plain world: it waits for that exactly where it tells so. An act and
-- a step of persistence come only where it waits for nothing there, and so does a wait for a conversion. Not said: that no
-- word is logged for a thread that waits.
abbrev pub FindsWait : (logging : Bool) → Event → Option On → Type 0
FindsWait logging (Did r) waits = waits ≡ None
FindsWait logging Micro waits = logging ≡ false → waits ≡ None
FindsWait logging (WouldWait (on.Conversion u)) waits = waits ≡ None
FindsWait logging (WouldWait on) waits = waits ≡ Some on
FindsWait logging (Over halt) waits = Unit {0}

-- Thread t is about the conversion of what it has asked, an object that isn't durable yet; no word is being logged for it; and
-- its wait for thread u's conversion holds, by some table of the heap's objects.
pub record AwaitsConversion (o : Opening) (m : Machine) (t u : ℕ) : Type 0 where
  pub converting : doing_of m t ≡ Converting
  pub unlogged : logs_word m t ≡ false
  pub pending : Pending
  pub asked : pending_of (known_in o m).asked t ≡ Some pending
  pub object : ℕ
  pub value : pending.value ≡ Object object
  pub table : List Entry
  pub agrees : AgreesAt (scene_of m) table
  pub unwritten : AreUnwritten m.queue table
  pub volatile : InP table object → ⊥
  pub below : u < 64
  pub holds : HoldsWait (plain_waits o m) (scene_of m) table t (on.Conversion u)

-- it waits for a thread's conversion, or the run is over
abbrev pub TellsConversion : Event → Type 0
TellsConversion (WouldWait (on.Conversion v)) = Unit {0}
TellsConversion (Over halt) = Unit {0}
TellsConversion result = ⊥

-- A thread that waits so tells that it waits for a conversion, unless the run is over. The thread that it names may be another than u.
abbrev pub FindsConversion : Opening → Machine → ℕ → Event → Type 0
FindsConversion o m t result = (u : ℕ) → AwaitsConversion o m t u → TellsConversion result

-- What each other thread is about stays, unless the run is over.
abbrev pub LeavesOthers : Event → ℕ → Machine → Machine → Type 0
LeavesOthers (Over halt) t old new = Unit {0}
LeavesOthers result t old new = (u : ℕ) → u ≢ t → doing_of new u ≡ doing_of old u

-- ---- acts

-- one act more, of the thread
pub record AddsOne (t : ℕ) (old new : List Recorded) : Type 0 where
  pub act : Recorded
  pub thread : act.act.thread ≡ t
  pub acts : new ≡ old ++ act ∷ []

-- One act where the request is answered, none where the thread waits or the run is over, and one or none otherwise.
abbrev pub AddsActs : Event → ℕ → List Recorded → List Recorded → Type 0
AddsActs (Did r) t old new = AddsOne t old new
AddsActs Micro t old new = (new ≡ old) ⊎ AddsOne t old new
AddsActs other t old new = new ≡ old

-- The sink took the output of the acts that were added, and nothing else; behind it, it takes what it would have taken before.
pub record TakesOutput (old new : List Recorded) (taken taken' : Option (List ℕ)) (takes takes' : ℕ → ℕ → Option ℕ) : Type 0 where
  pub further : List Recorded
  pub acts : new ≡ old ++ further
  pub output : taken' ≡ with_bytes taken (output_of further)
  pub behind : TakesBehind takes takes' (length (output_of further))

-- an operation that prints what was asked prints as many bytes of the piece as the sink takes of the whole,
-- where the sink tells that
abbrev pub IsShare : Request Ref Item → (ℕ → Option ℕ) → Op → Type 0
IsShare (ask.Print from piece) takes (op.Print bytes) =
    IfSome (takes (length piece)) (λ m. length bytes ≡ m)
IsShare request takes operation = Unit {0}

-- the request isn't answered, and the run goes on
abbrev pub IsUnanswered : Event → Type 0
IsUnanswered Micro = Unit {0}
IsUnanswered (WouldWait on) = Unit {0}
IsUnanswered result = ⊥

-- ---- what is beside

-- The sink fails only where the run is over by it, and then once.
abbrev pub HasSinkCause : Event → ℕ → ℕ → Type 0
HasSinkCause (Over (Met met.SinkFault)) before now = now ≡ next_count before
HasSinkCause result before now = now ≡ before

-- The image fails only where the run is over by it, and then once.
abbrev pub HasImageCause : Event → ℕ → ℕ → Type 0
HasImageCause (Over (Met met.ImageFault)) before now = now ≡ next_count before
HasImageCause result before now = now ≡ before

-- a turn that broke
abbrev pub IsBroken : Request Ref Item → Type 0
IsBroken (ask.Broken f) = Unit {0}
IsBroken request = ⊥

-- No reply answers a turn that broke.
abbrev pub IsAnswerTo : Event → Request Ref Item → Type 0
IsAnswerTo (Did r) request = IsBroken request → ⊥
IsAnswerTo other request = Unit {0}

-- It made no call of the image, or one.
abbrev pub CallsAtMostOnce : Shared → Shared → Type 0
CallsAtMostOnce old new =
    SameImage (memory_of old.machine) (memory_of new.machine)
    ⊎ OneCall (memory_of old.machine) (memory_of new.machine)

-- ---- the work that is left

-- how many acts it adds
abbrev pub acts_added : Shared → Shared → ℕ
acts_added old new = length new.history.acts - length old.history.acts

-- how many lines it takes, by a claim
abbrev pub lines_taken : Shared → Shared → ℕ
lines_taken old new = new.machine.free - old.machine.free

-- A quiet step is a `Micro` that adds no act. The work left is at most that before, less one where the event is a
-- quiet step, and 16 more for each act that it adds and each line that it takes. So events from a new heap on make
-- at most 16 quiet steps for each act and each line taken (`QuietStepsOfRunsAreFew`). Nothing comes after a run that is over.
abbrev pub KeepsBound : Event → Shared → Shared → Type 0
KeepsBound (Over halt) old new = Unit {0}
KeepsBound Micro old new = work_left new.machine + (1 - acts_added old new)
    ≤ work_left old.machine + 16 * (acts_added old new + lines_taken old new)
KeepsBound result old new = work_left new.machine
    ≤ work_left old.machine + 16 * (acts_added old new + lines_taken old new)

-- ---- all of it

-- What an event does to the heap. One that neither acts nor replies lowers the measure, unless the thread waits, which
-- doesn't raise it. What is remembered of threads is as it was.
pub record Comes (o : Opening) (first : ℕ) (es : List Entry) (threads : List ThreadFrames) (t : ℕ)
    (fs : ThreadFrames) (request : Request Ref Item) (result : Event) (old new : Shared) : Type 0 where
  pub goes : GoesTo o first result old new es threads t fs request
  pub finds : FindsWait (logs_word old.machine t) result (plain_waits o old.machine t)
  pub awaits : FindsConversion o old.machine t result
  pub acts : AddsActs result t old.history.acts new.history.acts
  pub calls : CallsAtMostOnce old new
  pub cause : HasImageCause result (memory_of old.machine).faults (memory_of new.machine).faults
  pub answers : IsAnswerTo result request
  pub numbers : new.machine.spaces.numbers ≡ old.machine.spaces.numbers
  pub quiet : result ≡ Micro → new.history.acts ≡ old.history.acts
      → measure new.machine < measure old.machine
  pub waits : (on : On) → result ≡ WouldWait on → measure new.machine ≤ measure old.machine
  pub work : KeepsBound result old new
  pub asks : new.notes.asks ≡ old.notes.asks
  pub noted : new.notes.waits ≡ old.notes.waits

abbrev pub IsNoPrint : Op → Type 0
IsNoPrint (op.Print bytes) = ⊥
IsNoPrint operation = Unit {0}

abbrev pub IsNoSinkFault : Event → Type 0
IsNoSinkFault (Over (Met met.SinkFault)) = ⊥
IsNoSinkFault result = Unit {0}

-- It has no part in the sink: it prints nothing, and isn't over by the sink.
pub record SparesSink (result : Event) (old new : List Recorded) : Type 0 where
  pub acts : (new ≡ old) ⊎ ((a : Recorded) × (new ≡ old ++ a ∷ []) × IsNoPrint a.act.op)
  pub fault : IsNoSinkFault result
