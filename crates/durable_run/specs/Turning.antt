-- When an event of a thread may come over a shared heap whose objects are made durable, and how a run ends.
use Rattle.std.specs.Prelude.{◌≡◌, ℕ, zero, suc, ℤ, Bool, false, not, List, length, slice_get, slice_index, slice_set, Option, Some, None}
use Rattle.ap_base.specs.Causes.{next_count}
use Rattle.ap_base.specs.declared.reference.Ref.{Ref}
use Rattle.ap_base.specs.declared.reference.Item.{Item}
use Rattle.run_types.specs.declared.fault.RunFault.{RunFault}
use Rattle.run_types.specs.declared.resolved.At.{At}
use Rattle.natives.specs.declared.methods.Native.{Native}
use Rattle.natives.specs.declared.requests.Request.{Request}
use Rattle.natives.specs.declared.requests.Request.TheVariants as ask
use Rattle.natives.specs.declared.states.NativeState.{NativeState}
use Rattle.run_history.specs.Recorded.{Recorded}
use Rattle.plain_model.specs.Facts.{SetFacts}
use Rattle.plain_model.specs.Ends.{Ending, EndsAs}
use Rattle.plain_model.specs.Ends.Ending.{Uncaught, Finished}
use Rattle.frames.specs.Settings.{Setting}
use Rattle.frames.specs.Turns.{turn}
use Rattle.frame_steps.specs.Sized.{AreOf}
use Rattle.private_steps.specs.Waits.{WaitsAfter}
use Rattle.shared_objects.specs.declared.rest.Rest.{Rest}
use Rattle.shared_objects.specs.declared.threads.ThreadState.{ThreadState}
use Rattle.shared_objects.specs.Shown.{Shown}
use Rattle.run_forms.specs.Views.{ThreadFrames}
use Rattle.run_forms.specs.Standing.{StandsFor, IsAsking, IsRun, plain_code, setting_of}
use Rattle.run_forms.specs.Ends.{IsEndedBy}
use Rattle.twin_forms.specs.Table.{Entry}
use Rattle.machine.specs.Passed.{Opening, Machine}
use Rattle.machine.specs.Passed.{IsListed}
use Rattle.machine.specs.Passed.{KeepsRun}
use Rattle.machine.specs.Passed.{Shared, asked_by, lines_from}
use Rattle.machine.specs.Running.{IsRunning, HadNoFault}
use Rattle.durable_run.specs.declared.runs.RunEnd.{RunEnd}
use Rattle.durable_run.specs.declared.runs.RunEnd.TheVariants.{Ended, Over}

-- ---- threads

abbrev pub lives : Option ThreadState → Bool
lives None = false
lives (Some state) = not state.ended

-- whether thread t was started and hasn't ended
abbrev pub is_live : List ThreadState → ℕ → Bool
is_live states t = lives (slice_get states t)

-- The counts of the threads' turns after an event of thread t: its turn is counted as it begins, and goes on while its
-- request isn't answered.
abbrev pub turns_after : Option (Request Ref Item) → ℕ → List ℕ → List ℕ
turns_after None t turns = slice_set turns t (next_count (slice_index turns t))
turns_after (Some request) t turns = turns

-- a count that went on so many times, in its 64 bits
abbrev pub count_on : ℕ → ℕ → ℕ
count_on zero count = count
count_on (suc times) count = next_count (count_on times count)

-- The counts of the threads' turns only went on since, one by one: none was set back.
abbrev pub TurnsGoOn : (old new : List ℕ) → Type 0
TurnsGoOn old new = (t : ℕ) → (turns : ℕ) × (slice_index new t ≡ count_on turns (slice_index old t))

-- what thread t asks next: the request that isn't answered, or that of its next turn
abbrev pub asks_next : Setting Native Ref (NativeState Ref) Item → Option (Request Ref Item) → ThreadFrames
    → Option (Request Ref Item)
asks_next x None fs = (turn x fs).asks
asks_next x (Some request) fs = Some request

-- ---- an event may come

-- Whatever array a thread asks to make in a plain run of the launch, its shape is one of the directory's.
abbrev pub AsksListed : Opening → Machine → Type 0
AsksListed o m = (acts : List Recorded) (shown : Shown) (rest : Rest) (threads : List ThreadFrames) (t : ℕ)
    (fs : ThreadFrames) (from : At) (shape : ℕ) (count : ℤ) → StandsFor o.launch acts shown rest threads
    → IsAsking o.launch rest threads t fs (ask.NewArray from shape count) → IsListed o m shape

-- The frames of a thread now, which had these before its turn: the same where its next turn is to begin. While a request
-- isn't answered they are as the turn left them, and wait for the reply.
abbrev pub HaveTurned : Setting Native Ref (NativeState Ref) Item → (asked : Option (Request Ref Item))
    → (before now : ThreadFrames) → Type 0
HaveTurned x None before now = now ≡ before
HaveTurned x (Some request) before now = (now ≡ (turn x before).frames) × WaitsAfter request now

-- Thread t has such frames, of the program.
pub record HasFrames (x : Setting Native Ref (NativeState Ref) Item) (asked : Option (Request Ref Item))
    (frames : List ThreadFrames) (t : ℕ) (before : ThreadFrames) : Type 0 where
  pub now : ThreadFrames
  pub there : slice_get frames t ≡ Some now
  pub of : AreOf x.program now.frames
  pub turned : HaveTurned x asked before now

-- An event may come of each live thread: of this opening, by the class set and the setting of its launch. With the frames that
-- the threads had before the turns that aren't done yet, the machine goes on as the plain run does.
pub record IsReady (o : Opening) (first : ℕ) (set : SetFacts) (x : Setting Native Ref (NativeState Ref) Item)
    (s : Shared) (frames : List ThreadFrames) : Type 0 where
  pub facts : set ≡ o.launch.set
  pub setting : x ≡ setting_of o.launch
  pub table : List Entry
  pub threads : List ThreadFrames
  pub running : IsRunning o first s table threads
  pub own : (t : ℕ) (before : ThreadFrames) → slice_get threads t ≡ Some before
      → HasFrames x (asked_by s.notes t) frames t before
  pub many : length frames ≡ 64
  pub arrays : AsksListed o s.machine

-- ---- how it ends

-- The acts are a plain run of the launch, of which no act met a fault. Some table says where its objects lie,
-- by which each stop is allowed.
pub record HasRun (o : Opening) (s : Shared) : Type 0 where
  pub run : IsRun o.launch s.machine.acts
  pub unfaulted : HadNoFault o.launch s.machine.acts
  pub history : s.history.acts ≡ s.machine.acts
  pub table : List Entry
  pub keeps : KeepsRun o s.machine table

abbrev pub HasEnded : Opening → ℕ → Machine → Ending → Type 0
HasEnded o first m ending = EndsAs o.launch.set o.launch.main o.launch.opening (plain_code o.launch)
    o.launch.limits (lines_from m first) m.acts ending

-- The acts are a plain run, which is over by this fault of thread t's event.
abbrev pub EndsAt : Opening → ℕ → ℕ → RunFault → Shared → Type 0
EndsAt o first t f s = HasRun o s × IsEndedBy o.launch (lines_from s.machine first) s.machine.acts t f

-- some thread's event meets this fault
abbrev pub HasMet : Opening → ℕ → Machine → RunFault → Type 0
HasMet o first m f = (t : ℕ) × IsEndedBy o.launch (lines_from m first) m.acts t f

-- how a run ends of which all threads have ended: by the least one that a throwable ended, with its class, if one did
abbrev pub ending_of : Option (ℕ × ℕ) → Ending
ending_of None = Finished
ending_of (Some thrown) = Uncaught thrown.0 thrown.1

-- The acts are a plain run, which ends so.
abbrev pub EndsBy : Opening → ℕ → RunEnd → Shared → Type 0
EndsBy o first (Ended uncaught) s = HasRun o s × HasEnded o first s.machine (ending_of uncaught)
EndsBy o first (Over f) s = HasRun o s × HasMet o first s.machine f

abbrev pub fault_in : RunEnd → Option RunFault
fault_in (Ended uncaught) = None
fault_in (Over f) = Some f
