-- How a turn ends a run without durable roots: by a fault that its acts tell, or that the sink gave. One that
-- does an act met none.
use Rattle.std.specs.Prelude.{◌≡◌, ℕ, ◌<◌, ◌≤◌, List, length, Option, Some, None}
use Rattle.ap_base.specs.declared.reference.Ref.{Ref}
use Rattle.ap_base.specs.declared.reference.Item.{Item}
use Rattle.run_types.specs.declared.fault.RunFault.{RunFault}
use Rattle.run_types.specs.declared.fault.RunFault.TheVariants as fault
use Rattle.run_types.specs.Faults.{run_fault}
use Rattle.run_types.specs.declared.fault.Which.TheVariants as which
use Rattle.run_types.specs.declared.resolved.At.{At}
use Rattle.graph_model.specs.declared.types.Value.TheVariants as value
use Rattle.natives.specs.declared.requests.Request.{Request}
use Rattle.natives.specs.declared.requests.Reply.{Reply}
use Rattle.run_history.specs.declared.act.Op.{Op}
use Rattle.run_history.specs.Recorded.{Recorded}
use Rattle.plain_model.specs.Requests.{from_of}
use Rattle.plain_model.specs.Limits.{acts_left}
use Rattle.plain_model.specs.Ends.{FaultComes, fault_after, full}
use Rattle.frames.specs.Maps.{map_request}
use Rattle.shared_objects.specs.declared.rest.Rest.{Rest}
use Rattle.shared_objects.specs.Shown.{Shown}
use Rattle.step_forms.specs.declared.stepped.Stepped.{Stepped}
use Rattle.step_forms.specs.declared.stepped.Stepped.TheVariants as stepped
use Rattle.step_forms.specs.Follows.{IsStep}
use Rattle.run_forms.specs.Views.{ThreadFrames}
use Rattle.run_forms.specs.Standing.{Launch, IsAsking, plain_code, known_at}
use Rattle.run_forms.specs.Volatile.{OfVolatile}

-- the fault is that by which thread t's event after these acts ends the run, where the image has so many lines
-- for objects
abbrev pub IsEndedBy : Launch → ℕ → List Recorded → ℕ → RunFault → Type 0
IsEndedBy launch lines acts t f =
    FaultComes launch.set launch.main launch.opening (plain_code launch) launch.limits lines acts t f

-- the instruction that asks; pauses, faults and leaves have none
abbrev pub from_in : Request Ref Item → Option At
from_in request = from_of (map_request (λ r. value.Null) (λ v. value.Null) request)

-- A history that has as many acts as it may have ends the run before all else.
abbrev pub FullHistoriesEnd : Type 0
FullHistoriesEnd = OfVolatile (λ launch calls acts shown rest threads.
    (lines t : ℕ) (fs : ThreadFrames) (request : Request Ref Item) → IsAsking launch rest threads t fs request
    → launch.limits.acts ≤ length acts → IsEndedBy launch lines acts t (full which.Acts 1 0))

-- A wrong operand names the instruction that asks, and a step by which the run is over tells its fault.
abbrev pub Ends : Launch → (lines : ℕ) → List Recorded → ℕ → Request Ref Item → Stepped → Type 0
Ends launch lines acts t request (stepped.Did o r) = Unit {0}
Ends launch lines acts t request (stepped.Waits on) = Unit {0}
Ends launch lines acts t request stepped.Wrong =
    (from : At) × (from_in request ≡ Some from) × IsEndedBy launch lines acts t (fault.BadCode from)
Ends launch lines acts t request (stepped.Over f) = IsEndedBy launch lines acts t (run_fault f)

-- While there is room for an act, the step's fault is that by which the event ends the run.
abbrev pub StepsEnd : Type 0
StepsEnd = OfVolatile (λ launch calls acts shown rest threads.
    (lines t : ℕ) (fs : ThreadFrames) (request : Request Ref Item) (result : Stepped) (now : Shown)
    (rest_now : Rest) → IsAsking launch rest threads t fs request
    → IsStep launch.set t request shown rest result now rest_now → length acts < launch.limits.acts
    → Ends launch lines acts t request result)

-- After these acts the history has room for an act, and by what acts tell thread t's event ends the run by no
-- fault.
abbrev pub MeetsNoFault : Launch → (lines : ℕ) → List Recorded → ℕ → Type 0
MeetsNoFault launch lines acts t =
    (0 < acts_left launch.limits (known_at launch acts))
    × (fault_after launch.set launch.main launch.opening (plain_code launch) launch.limits lines acts t ≡ None)

-- The event of a step that does an operation meets none, while there is room for its act.
abbrev pub ActsMeetNoFault : Type 0
ActsMeetNoFault = OfVolatile (λ launch calls acts shown rest threads.
    (lines t : ℕ) (fs : ThreadFrames) (request : Request Ref Item) (o : Op) (r : Reply Ref Item) (now : Shown)
    (rest_now : Rest) → IsAsking launch rest threads t fs request
    → IsStep launch.set t request shown rest (stepped.Did o r) now rest_now → length acts < launch.limits.acts
    → MeetsNoFault launch lines acts t)
