-- What each fault of a run comes of.
use Rattle.std.specs.Prelude.{◌≡◌, ◌≢◌, ◌⊎◌, ℕ, ◌<◌, true, false, List, length, slice_get, Option, Some, None, IsSome}
use Rattle.ap_base.specs.declared.place.Place.{Place}
use Rattle.run_types.specs.declared.wait.On.{On}
use Rattle.run_types.specs.declared.limits.Limits.{Limits}
use Rattle.run_types.specs.declared.fault.RunFault.{RunFault}
use Rattle.run_types.specs.declared.fault.RunFault.TheVariants as fault
use Rattle.run_types.specs.declared.fault.StepFault.{StepFault}
use Rattle.run_types.specs.Faults.{run_fault}
use Rattle.run_types.specs.declared.fault.Which.{Which}
use Rattle.run_types.specs.declared.fault.Which.TheVariants as which
use Rattle.graph_model.specs.declared.types.Value.{Value}
use Rattle.graph_model.specs.declared.types.Graph.{Graph}
use Rattle.run_history.specs.declared.act.Op.{Op}
use Rattle.run_history.specs.declared.act.Op.TheVariants as op
use Rattle.run_history.specs.Recorded.{Recorded}
use Rattle.run_history.specs.Worlds.{held, depth_of}
use Rattle.run_history.specs.Knowing.{Knowledge, durable_at, guard_of, owes_fence}
use Rattle.plain_model.specs.Facts.{SetFacts}
use Rattle.plain_model.specs.Requests.{PlainRequest, from_of}
use Rattle.plain_model.specs.Limits.{words_made, words_left, acts_left, log_entries_left, monitors_left}
use Rattle.plain_model.specs.Steps.{WrongOperand, IsOver, step}
use Rattle.plain_model.specs.Codes.{Code}
use Rattle.plain_model.specs.Runs.{IsAbout, is_volatile, has_guarded, known_of, request_after}
use Rattle.plain_model.specs.Ends.{full, waits_of, fault_after}

-- the step of the thread's request finds a wrong operand: the fault names the instruction that asks
pub record FindsWrongOperand (set : SetFacts) (known : Knowledge) (request : Option PlainRequest) (t : ℕ) (f : RunFault) : Type 0 where
  pub asked : PlainRequest
  pub is_asked : request ≡ Some asked
  pub is_wrong : step set known.world t 1 asked ≡ WrongOperand
  pub names : (from : _) × (from_of asked ≡ Some from) × (f ≡ fault.BadCode from)

-- the request is itself the end of the run, or a further thread can't be started
pub record IsOverBy (set : SetFacts) (known : Knowledge) (request : Option PlainRequest) (t : ℕ) (f : RunFault) : Type 0 where
  pub asked : PlainRequest
  pub is_asked : request ≡ Some asked
  pub met : StepFault
  pub is_over : step set known.world t 1 asked ≡ IsOver met
  pub names : f ≡ run_fault met

-- the thread's request stores at a durable place that another thread's open region has guarded
pub record Races (set : SetFacts) (known : Knowledge) (request : Option PlainRequest) (t : ℕ) (f : RunFault) : Type 0 where
  pub place : Place
  pub other : ℕ
  pub stores : (value : Value) × IsAbout set known request t (op.Stored place value)
  pub durable : durable_at known place ≡ true
  pub guarded : guard_of known.guards place ≡ Some other
  pub another : other ≢ t
  pub names : f ≡ fault.RegionRace t other place

-- some thread lives, and each live thread waits and owes no fence
pub record IsStuck (waits : ℕ → Option On) (requests : ℕ → Option PlainRequest) (f : RunFault) : Type 0 where
  pub lives : (t : ℕ) × IsSome (requests t)
  pub all_wait : (t : ℕ) → IsSome (requests t) → IsSome (waits t)
  pub named : List (Option On)
  pub sixty_four : length named ≡ 64
  pub told : (t : ℕ) → t < 64 → slice_get named t ≡ Some (waits t)
  pub names : f ≡ fault.Stuck named

-- More is needed than is left, of what the thread's request uses up.
pub record UsesUp (need left : ℕ) (which : Which) (f : RunFault) : Type 0 where
  pub more : left < need
  pub names : f ≡ full which need left

abbrev pub FillsHeap : SetFacts → Graph → Limits → Knowledge → Option PlainRequest → ℕ → RunFault → Type 0
FillsHeap set opening limits known request t f =
    (o : Op) × (need : ℕ) × IsAbout set known request t o × (words_made known.world.heap o ≡ Some need)
    × UsesUp need (words_left limits opening known.world.heap) which.VolatileWords f

-- the history has as many acts as it may have
abbrev pub FillsHistory : Limits → Knowledge → RunFault → Type 0
FillsHistory limits known f = UsesUp 1 (acts_left limits known) which.Acts f

-- an open region has as many places guarded as it may, and its thread stores what isn't volatile at a
-- further durable place
abbrev pub FillsLog : SetFacts → Knowledge → Option PlainRequest → ℕ → RunFault → Type 0
FillsLog set known request t f =
    (place : Place) × (value : Value) × IsAbout set known request t (op.Stored place value) × (durable_at known place ≡ true)
    × (is_volatile known.durable value ≡ false) × (depth_of known.world t ≢ 0)
    × (has_guarded known t place ≡ false)
    × UsesUp 1 (log_entries_left known.guards t) which.LogEntries f

-- as many monitors are held as may be, and the thread enters a further one
abbrev pub FillsMonitors : SetFacts → Knowledge → Option PlainRequest → ℕ → RunFault → Type 0
FillsMonitors set known request t f =
    (key : _) × IsAbout set known request t (op.Enter key) × (held known.world.monitors key ≡ None)
    × UsesUp 1 (monitors_left known.world.monitors) which.Monitors f

-- what the fault of thread t's step comes of, where these are the requests
abbrev pub HasCauseOfStep : SetFacts → Graph → Limits → Knowledge → (ℕ → Option PlainRequest) → ℕ
    → RunFault → Type 0
HasCauseOfStep set opening limits known requests t f =
    FindsWrongOperand set known (requests t) t f ⊎ IsOverBy set known (requests t) t f
    ⊎ Races set known (requests t) t f ⊎ IsStuck (waits_of set known requests) requests f
    ⊎ FillsHeap set opening limits known (requests t) t f ⊎ FillsLog set known (requests t) t f
    ⊎ FillsMonitors set known (requests t) t f

-- What the fault of thread t's event comes of: a full history, or its step, where it owes no fence.
abbrev pub HasCause : SetFacts → Graph → Limits → Knowledge → (ℕ → Option PlainRequest) → ℕ
    → RunFault → Type 0
HasCause set opening limits known requests t f =
    FillsHistory limits known f
    ⊎ ((owes_fence known.unfenced t ≡ false) × HasCauseOfStep set opening limits known requests t f)

-- Each fault that acts tell has its cause.
abbrev pub FaultsHaveCauses : Type 0 → Type 0
FaultsHaveCauses Frames = (set : SetFacts) (main : ℕ) (opening : Graph) (code : Code set main opening Frames)
    (limits : Limits) (lines : ℕ) (acts : List Recorded) (t : ℕ) (f : RunFault)
    → fault_after set main opening code limits lines acts t ≡ Some f
    → HasCause set opening limits (known_of set main opening code acts) (request_after set main opening code acts) t f
