-- How a run ends: by a fault that its last event meets, by a throwable that ended a thread, or normally.
use Rattle.std.specs.Prelude.{◌≡◌, ◌≢◌, ◌⊎◌, ℕ, zero, suc, ◌<◌, Bool, true, false, nat_eq, nat_le, not, ◌||◌, ◌&&◌, List, []}
use Rattle.std.specs.Prelude.{◌∷◌, ◌++◌, length, Option, Some, None, All, AllPairs, Contains, is_some, IsSome, if◌then◌else◌}
use Rattle.ap_base.specs.declared.place.Place.{Place}
use Rattle.run_types.specs.declared.resolved.At.{At}
use Rattle.run_types.specs.declared.wait.On.{On}
use Rattle.run_types.specs.declared.limits.Limits.{Limits}
use Rattle.run_types.specs.declared.fault.RunFault.{RunFault}
use Rattle.run_types.specs.declared.fault.RunFault.TheVariants as fault
use Rattle.run_types.specs.Faults.{run_fault}
use Rattle.run_types.specs.declared.fault.Which.{Which}
use Rattle.run_types.specs.declared.fault.Which.TheVariants as which
use Rattle.graph_model.specs.declared.types.Value.{Value}
use Rattle.graph_model.specs.declared.types.Graph.{Graph}
use Rattle.graph_model.specs.Heaps.{has_number}
use Rattle.run_history.specs.declared.act.Op.{Op}
use Rattle.run_history.specs.declared.act.Op.TheVariants as op
use Rattle.run_history.specs.declared.plain.Monitor.{Monitor}
use Rattle.run_history.specs.Recorded.{Recorded}
use Rattle.run_history.specs.Worlds.{World, Thread, held, depth_of}
use Rattle.run_history.specs.Knowing.{Knowledge, durable_at, guard_of, pending_of, owes_fence}
use Rattle.run_history.specs.Wanted.{Wishes}
use Rattle.natives.specs.declared.requests.Request.TheVariants as ask
use Rattle.plain_model.specs.Facts.{SetFacts}
use Rattle.plain_model.specs.Requests.{PlainRequest, from_of}
use Rattle.plain_model.specs.Limits.{most_threads, words_made, words_left, acts_left, object_lines, lines_left}
use Rattle.plain_model.specs.Limits.{log_entries_left, monitors_left, joined_of}
use Rattle.plain_model.specs.Steps.{Step, Does, Waits, WrongOperand, IsOver, step}
use Rattle.plain_model.specs.Codes.{Code}
use Rattle.plain_model.specs.Runs.{is_volatile, known_of, wants_of, request_after}

pub data Ending : Type 0 where
  Fault : RunFault → Ending
  -- all threads have ended, and this is the least one that a throwable ended, with its class
  Uncaught : ℕ → ℕ → Ending
  Finished : Ending

-- the wait of a step, if it waits
abbrev pub wait_of : Step → Option On
wait_of (Waits on) = Some on
wait_of (Does o r) = None
wait_of WrongOperand = None
wait_of (IsOver fault) = None

abbrev pub wait_at : SetFacts → World → ℕ → Option PlainRequest → Option On
wait_at set world t None = None
wait_at set world t (Some request) = wait_of (step set world t 1 request)

-- what each thread waits for, where these are the requests: one that owes a fence makes it, and doesn't wait
abbrev pub waits_of : SetFacts → Knowledge → (ℕ → Option PlainRequest) → ℕ → Option On
waits_of set known requests t =
    if owes_fence known.unfenced t then None else wait_at set known.world t (requests t)

abbrev pub full : Which → ℕ → ℕ → RunFault
full which need left = fault.Full (record { which = which; need = need; left = left })

-- full, where more is needed than is left
abbrev pub full_unless : Which → ℕ → ℕ → Option RunFault
full_unless which need left = if nat_le need left then None else Some (full which need left)

-- an instruction found a wrong operand
abbrev pub bad_code : Option At → Option RunFault
bad_code None = None
bad_code (Some from) = Some (fault.BadCode from)

-- each of the first so many threads waits, or asks nothing
abbrev pub all_wait : (ℕ → Option PlainRequest) → (ℕ → Option On) → ℕ → Bool
all_wait requests waits zero = true
all_wait requests waits (suc t) = (not (is_some (requests t)) || is_some (waits t)) && all_wait requests waits t

-- the waits of so many threads from this one on
abbrev pub waits_from : (ℕ → Option On) → ℕ → ℕ → List (Option On)
waits_from waits t zero = []
waits_from waits t (suc more) = waits t ∷ waits_from waits (suc t) more

module _ (set : SetFacts) (opening : Graph) (limits : Limits) (known : Knowledge) where
  -- A durable place that another thread's open region has guarded is a race. Else a volatile object is made durable first. Then
  -- an open region guards the place, once.
  abbrev pub fault_of_durable_store : ℕ → Place → Value → Option ℕ → Option RunFault
  fault_of_durable_store t place value (Some other) =
      if nat_eq other t then None else Some (fault.RegionRace t other place)
  fault_of_durable_store t place value None =
      if is_volatile known.durable value || nat_eq (depth_of known.world t) 0
      then None
      else full_unless which.LogEntries 1 (log_entries_left known.guards t)

  abbrev pub fault_of_store : ℕ → Place → Value → Option RunFault
  fault_of_store t place value =
      if durable_at known place
      then fault_of_durable_store t place value (guard_of known.guards place)
      else None

  -- a monitor that some thread holds takes no further room
  abbrev pub fault_of_enter : Option Monitor → Option RunFault
  fault_of_enter (Some monitor) = None
  fault_of_enter None = full_unless which.Monitors 1 (monitors_left known.world.monitors)

  abbrev pub fault_of_words : Option ℕ → Option RunFault
  fault_of_words None = None
  fault_of_words (Some need) = full_unless which.VolatileWords need (words_left limits opening known.world.heap)

  abbrev pub fault_of_op : ℕ → Op → Option RunFault
  fault_of_op t (op.Stored place value) = fault_of_store t place value
  fault_of_op t (op.Enter key) = fault_of_enter (held known.world.monitors key)
  fault_of_op t o = fault_of_words (words_made known.world.heap o)

  -- Where a thread waits, the run is stuck if each live thread does.
  abbrev pub fault_of_waiting : (ℕ → Option PlainRequest) → Option RunFault
  fault_of_waiting requests =
      if all_wait requests (waits_of set known requests) (length known.world.threads)
      then Some (fault.Stuck (waits_from (waits_of set known requests) 0 most_threads))
      else None

  abbrev pub fault_of_step : (ℕ → Option PlainRequest) → ℕ → PlainRequest → Step → Option RunFault
  fault_of_step requests t request (Does o r) = fault_of_op t o
  fault_of_step requests t request (Waits on) = fault_of_waiting requests
  fault_of_step requests t request WrongOperand = bad_code (from_of request)
  fault_of_step requests t request (IsOver f) = Some (run_fault f)

  -- a full history ends a run before all else, and a thread that owes a fence makes it before what it asks
  abbrev pub fault_of_request : (ℕ → Option PlainRequest) → ℕ → Option PlainRequest → Option RunFault
  fault_of_request requests t None = None
  fault_of_request requests t (Some request) =
      if nat_le 1 (acts_left limits known)
      then if owes_fence known.unfenced t
      then None
      else fault_of_step requests t request (step set known.world t 1 request)
      else Some (full which.Acts 1 (acts_left limits known))

  -- The fault by which thread t's event ends the run, if it does so by what is known and what the threads ask: the first cause
  -- that there is.
  abbrev pub fault_of : (ℕ → Option PlainRequest) → ℕ → Option RunFault
  fault_of requests t = fault_of_request requests t (requests t)

-- These objects became durable in the run, or are wanted.
abbrev pub IsTaken : Graph → Knowledge → Wishes → ℕ → Type 0
IsTaken opening known Now n = (length opening.nodes < suc n) × ((has_number known.durable n ≡ true) ⊎ ((u : ℕ) × Now u n))

-- Thread t's Asked act is pending, and the image has too few lines for a further object that it wants, beside those that have
-- taken theirs: all that became durable in the run, and maybe some that are wanted.
pub record FillsImage (opening : Graph) (lines : ℕ) (known : Knowledge) (Now : Wishes) (t : ℕ) (f : RunFault) : Type 0 where
  pub converts : IsSome (pending_of known.asked t)
  pub claimed : List ℕ
  pub refused : ℕ
  pub wanted : Now t refused
  pub once : AllPairs (λ m n. m ≢ n) (claimed ++ refused ∷ [])
  pub taken : All (IsTaken opening known Now) (claimed ++ refused ∷ [])
  pub joined : All (λ n. Contains claimed n) (joined_of opening known)
  pub more : lines_left lines known.world.heap claimed < object_lines known.world.heap refused
  pub names : f ≡ full which.ImageLines (object_lines known.world.heap refused) (lines_left lines known.world.heap claimed)

-- the request prints a piece
abbrev pub Prints : Option PlainRequest → Type 0
Prints request = (from : _) × (piece : List ℕ) × (request ≡ Some (ask.Print from piece))

-- a throwable ended none of these threads, or the least one that a throwable ended is this, with its class
abbrev pub first_uncaught : ℕ → List Thread → Ending
first_uncaught t [] = Finished
first_uncaught t (thread ∷ threads) = elim thread.uncaught [ None ↦ first_uncaught (suc t) threads | Some class ↦ Uncaught t class ]

module _ (set : SetFacts) (main : ℕ) (opening : Graph) {Frames : Type 0} (code : Code set main opening Frames) (limits : Limits) (lines : ℕ) where
  -- the fault by which the event of thread t after these acts ends the run, by what acts tell
  abbrev pub fault_after : List Recorded → ℕ → Option RunFault
  fault_after acts t =
      fault_of set opening limits (known_of set main opening code acts) (request_after set main opening code acts) t

  -- The event of thread t after these acts ends the run by this fault. Where acts tell of none, the sink may fail as the thread
  -- prints and owes no fence, and the lines be used up as it makes objects durable. The image may fail in any
  -- event of a history that isn't full.
  -- For the sink and the image the further cause is a count that rose.
  -- `lines` are those that the image has for objects, from the first free one on.
  abbrev pub FaultComes : List Recorded → ℕ → RunFault → Type 0
  FaultComes acts t fault.SinkFault =
      Prints (request_after set main opening code acts t) × (fault_after acts t ≡ None)
      × (owes_fence (known_of set main opening code acts).unfenced t ≡ false)
  FaultComes acts t fault.ImageFault =
      IsSome (request_after set main opening code acts t) × (0 < acts_left limits (known_of set main opening code acts))
  FaultComes acts t f =
      (fault_after acts t ≡ Some f)
      ⊎ ((fault_after acts t ≡ None)
      × FillsImage opening lines (known_of set main opening code acts) (wants_of set main opening code acts) t f)

  -- all threads have ended
  abbrev pub HaveEnded : List Recorded → Type 0
  HaveEnded acts = All (λ (thread : Thread). thread.ended ≡ true) (known_of set main opening code acts).world.threads

  -- How the run of these acts ends.
  abbrev pub EndsAs : List Recorded → Ending → Type 0
  EndsAs acts (Fault f) = (t : ℕ) × FaultComes acts t f
  EndsAs acts (Uncaught t class) = HaveEnded acts × (first_uncaught 0 (known_of set main opening code acts).world.threads ≡ Uncaught t class)
  EndsAs acts Finished = HaveEnded acts × (first_uncaught 0 (known_of set main opening code acts).world.threads ≡ Finished)
