-- A run that lies under a lock, and what it knows of its beginning.
use Rattle.std.specs.Prelude.{◌≡◌, ℕ, true, List, All, Option, Some, None, IfSome}
use Rattle.ap_base.specs.declared.reference.Ref.{Ref}
use Rattle.ap_base.specs.declared.reference.Item.{Item}
use Rattle.run_types.specs.declared.fault.RunFault.{RunFault}
use Rattle.natives.specs.declared.methods.Native.{Native}
use Rattle.natives.specs.declared.states.NativeState.{NativeState}
use Rattle.run_history.specs.Recorded.{Recorded}
use Rattle.plain_model.specs.Facts.{SetFacts}
use Rattle.frames.specs.Settings.{Setting}
use Rattle.shared_objects.specs.declared.threads.ThreadState.{ThreadState}
use Rattle.run_forms.specs.Views.{ThreadFrames}
use Rattle.durable_run.specs.Passed.{Opening, memory_of}
use Rattle.durable_run.specs.Passed.{Shared}
use Rattle.durable_run.specs.declared.runs.RunEnd.{RunEnd}
use Rattle.durable_run.specs.declared.runs.RunEnd.TheVariants.{Over}
use Rattle.durable_run.specs.Shares.{PrintsShares}
use Rattle.durable_run.specs.Sparing.{SparesSink}
use Rattle.durable_run.specs.Telling.{HasTold, IsCaused}
use Rattle.durable_run.specs.Turning.{EndsBy, IsReady, fault_in}

-- What a run began with: class set, setting, heap with its history, the threads' frames; what the watcher had seen; what the
-- sink had taken, what it takes, and how often it had failed.
pub record Began : Type 0 where
  pub set : SetFacts
  pub setting : Setting Native Ref (NativeState Ref) Item
  pub heap : Shared
  pub frames : List ThreadFrames
  pub seen : Option (List Recorded)
  pub taken : Option (List ℕ)
  pub takes : ℕ → ℕ → Option ℕ
  pub faults : ℕ

-- What lies under the lock, with the fault by which the run is over, if it is.
pub record Held : Type 0 where
  pub heap : Shared
  pub frames : List ThreadFrames
  pub seen : Option (List Recorded)
  pub taken : Option (List ℕ)
  pub faults : ℕ
  pub over : Option RunFault

abbrev pub began : SetFacts → Setting Native Ref (NativeState Ref) Item → Shared → List ThreadFrames
    → Option (List Recorded) → Option (List ℕ) → (ℕ → ℕ → Option ℕ) → ℕ → Began
began set x s frames seen taken takes faults = record {
  set = set;
  setting = x;
  heap = s;
  frames = frames;
  seen = seen;
  taken = taken;
  takes = takes;
  faults = faults;
}

abbrev pub held : Shared → List ThreadFrames → Option (List Recorded) → Option (List ℕ) → ℕ → Option RunFault → Held
held s frames seen taken faults over = record {
  heap = s;
  frames = frames;
  seen = seen;
  taken = taken;
  faults = faults;
  over = over;
}

-- a run that began so is of this class set and setting
abbrev pub IsOf : SetFacts → Setting Native Ref (NativeState Ref) Item → Option Began → Type 0
IsOf set x entry = IfSome entry (λ e. (set ≡ e.set) × (x ≡ e.setting))

-- an event of each live thread may come, or the run is over by this fault
abbrev pub GoesOn : Opening → ℕ → SetFacts → Setting Native Ref (NativeState Ref) Item → Option RunFault → Shared
    → List ThreadFrames → Type 0
GoesOn o first set x None s frames = IsReady o first set x s frames
GoesOn o first set x (Some f) s frames = EndsBy o first (Over f) s

-- Whatever opening an event might have come of as it began: it goes on with the run of that opening, or that run is over.
-- Watcher and sink were told its further acts, of which each print took its share; the sink takes this now. A fault of the outside
-- has its cause.
pub record Holds (e : Began) (k : Held) (takes : ℕ → ℕ → Option ℕ) : Type 0 where
  pub some : (o : Opening) × (first : ℕ) × IsReady o first e.set e.setting e.heap e.frames
  pub goes : (o : Opening) (first : ℕ) → IsReady o first e.set e.setting e.heap e.frames
      → GoesOn o first e.set e.setting k.over k.heap k.frames
  pub told : HasTold e.heap.history.acts k.heap.history.acts e.seen k.seen e.taken k.taken
  pub shares : (o : Opening) (first : ℕ) → IsReady o first e.set e.setting e.heap e.frames
      → PrintsShares o.launch e.takes takes e.heap.history.acts k.heap.history.acts
  pub cause : IsCaused k.over e.faults k.faults (memory_of e.heap.machine).faults (memory_of k.heap.machine).faults

-- it holds of what the run's name says that it began with
abbrev pub Knows : Option Began → Held → (ℕ → ℕ → Option ℕ) → Type 0
Knows entry k takes = (e : Began) × (entry ≡ Some e) × Holds e k takes

-- What is left of a run that began so and ended so: its acts are a plain run, which is kept; the outside was told those since,
-- of which each print took its share; a fault of the outside has its cause; and the image keeps its size.
pub record HasLeft (e : Began) (end : RunEnd) (s : Shared) (seen : Option (List Recorded)) (taken : Option (List ℕ))
    (takes : ℕ → ℕ → Option ℕ) (faults : ℕ) : Type 0 where
  pub ends : (o : Opening) (first : ℕ) → IsReady o first e.set e.setting e.heap e.frames → EndsBy o first end s
  pub told : HasTold e.heap.history.acts s.history.acts e.seen seen e.taken taken
  pub shares : (o : Opening) (first : ℕ) → IsReady o first e.set e.setting e.heap e.frames
      → PrintsShares o.launch e.takes takes e.heap.history.acts s.history.acts
  pub cause : IsCaused (fault_in end) e.faults faults (memory_of e.heap.machine).faults (memory_of s.machine).faults
  pub size : (memory_of s.machine).size ≡ (memory_of e.heap.machine).size

-- ---- the sink

-- The further acts of a run that began so lead from the one state of its sink to the other, whatever opening an event might have
-- come of as it began.
abbrev pub SparesSince : {S : Type 0} → (S → Option (List ℕ)) → Began → Option RunFault → (sink last : S) → Shared → Type 0
SparesSince taken e over sink last s = (o : Opening) (first : ℕ) → IsReady o first e.set e.setting e.heap e.frames
    → SparesSink taken o.launch over sink last e.heap.history.acts s.history.acts

-- it is so of what the run's name says that it began with
abbrev pub KnowsSink : {S : Type 0} → (S → Option (List ℕ)) → Option Began → Option S → Option RunFault → (last : S) → Shared
    → Type 0
KnowsSink {S = S} taken entry first over last s = (e : Began) × (sink : S) × (entry ≡ Some e) × (first ≡ Some sink)
    × SparesSince taken e over sink last s

-- ---- the end

-- It is over, or all threads have ended.
abbrev pub HasEnded : Held → Type 0
HasEnded k = k.over ≡ None → All (λ (state : ThreadState). state.ended ≡ true) k.heap.machine.rest.threads
