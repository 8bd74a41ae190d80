-- When a machine's run is stuck: each thread that lives waits in the plain world.
use Rattle.std.specs.Prelude.{◌≡◌, ℕ, ◌<◌, List, length, Option, Some, None, IsSome}
use Rattle.ap_base.specs.declared.reference.Ref.{Ref}
use Rattle.ap_base.specs.declared.reference.Item.{Item}
use Rattle.run_types.specs.declared.wait.On.{On}
use Rattle.run_types.specs.declared.wait.On.TheVariants as on
use Rattle.run_types.specs.declared.fault.RunFault.TheVariants as fault
use Rattle.natives.specs.declared.requests.Request.{Request}
use Rattle.plain_model.specs.Limits.{most_threads}
use Rattle.plain_model.specs.Requests.{PlainRequest}
use Rattle.plain_model.specs.Steps.{step}
use Rattle.plain_model.specs.Runs.{request_after}
use Rattle.plain_model.specs.Ends.{wait_of, waits_of, waits_from}
use Rattle.shared_objects.specs.Plain.{plain_request}
use Rattle.run_forms.specs.Views.{ThreadFrames}
use Rattle.run_forms.specs.Standing.{plain_code}
use Rattle.run_forms.specs.Ends.{IsEndedBy}
use Rattle.twin_forms.specs.Table.{Entry, IsClaimed}
use Rattle.converter.specs.Laws.{AreUnwritten}
use Rattle.lasting_steps.specs.Asking.{AsksItsStore}
use Rattle.machine_ends.specs.Passed.{Opening, Machine, known_in, scene_of, shown_in, doing_of}
use Rattle.machine_ends.specs.Passed.{KeepsRun}
use Rattle.machine_ends.specs.Passed.{Asks, IsReady, OfPlain}
use Rattle.machine_ends.specs.Laws.{OwesFence}
use Rattle.convert_waits.specs.Rows.{Why, InRow, none_waited}
use Rattle.convert_waits.specs.Stuck.{IsRecord, IsStuckAt}
use Rattle.machine_threads.specs.Claiming.{HasForwarded}
use Rattle.machine_threads.specs.Plain.{EndsStuck, asks_some}

-- what each thread asks in the plain run of the acts
abbrev pub requests_in : Opening → Machine → ℕ → Option PlainRequest
requests_in o m t = request_after o.launch.set o.launch.main o.launch.opening (plain_code o.launch) m.acts t

-- and what it waits for in the plain world; none where it owes a fence
abbrev pub plain_waits : Opening → Machine → ℕ → Option On
plain_waits o m t = waits_of o.launch.set (known_in o m) (requests_in o m) t

-- ---- what threads wait for, as their own frames ask

-- A thread whose frames don't lag waits as the step of what they ask says, and one that owes a fence doesn't wait.
abbrev pub ReadyThreadsWaitAlike : Type 0
ReadyThreadsWaitAlike = OfPlain (λ o m es threads. (t : ℕ) (fs : ThreadFrames) (request : Request Ref Item)
    → IsReady (doing_of m t) → Asks o m threads t fs request
    → plain_waits o m t
    ≡ wait_of (step o.launch.set (known_in o m).world t 1 (plain_request (shown_in m).number request)))

abbrev pub FencesDontWait : Type 0
FencesDontWait = OfPlain (λ o m es threads. (t : ℕ) → OwesFence (doing_of m t) → plain_waits o m t ≡ None)

-- ---- the end

-- While there is room for an act: where thread t waits, and so does each thread that lives, t's event ends the run stuck,
-- with the waits of all.
abbrev pub StuckMachinesEnd : Type 0
StuckMachinesEnd = OfPlain (λ o m es threads. (lines t : ℕ) (on : On) → plain_waits o m t ≡ Some on
    → ((u : ℕ) → IsSome (requests_in o m u) → IsSome (plain_waits o m u))
    → length m.acts < o.launch.limits.acts
    → IsEndedBy o.launch lines m.acts t (fault.Stuck (waits_from (plain_waits o m) 0 most_threads)))

-- ---- records of waits

-- Each thread that has asked a value asks its store still.
abbrev pub AllAskStores : Opening → Machine → Type 0
AllAskStores o m = (t : ℕ) → AsksItsStore o.launch.set (known_in o m) (requests_in o m t) t

-- Whoever has claimed an object lives, and waits for nothing in the plain world.
abbrev pub ClaimersLive : Type 0
ClaimersLive = (o : Opening) (m : Machine) (es : List Entry) (t n : ℕ) → KeepsRun o m es → AllAskStores o m
    → IsClaimed es t n → IsSome (requests_in o m t) × (plain_waits o m t ≡ None)

-- Waits as they are recorded: all that a thread whose last event waited has claimed is forwarded, and who is waited for is one
-- of the 64.
pub record AreRecorded (es : List Entry) (recorded : ℕ → Option On) : Type 0 where
  pub forwarded : (t : ℕ) (on : On) → recorded t ≡ Some on → HasForwarded es t
  pub below : (t u : ℕ) → recorded t ≡ Some (on.Conversion u) → u < 64

abbrev pub RecordsAreRight : Type 0
RecordsAreRight = (o : Opening) (m : Machine) (es : List Entry) (recorded : ℕ → Option On) → KeepsRun o m es
    → AllAskStores o m → AreRecorded es recorded
    → IsRecord (plain_waits o m) (asks_some (requests_in o m)) es recorded

-- Where the last event of each live thread waited, and each of those waits holds, the run is stuck by waits of the plain
-- world alone.
abbrev pub StuckRecordsEndMachines : Type 0
StuckRecordsEndMachines = (o : Opening) (m : Machine) (es : List Entry) (recorded : ℕ → Option On) (t : ℕ)
    → KeepsRun o m es → AllAskStores o m → AreRecorded es recorded
    → IsStuckAt (plain_waits o m) (asks_some (requests_in o m)) (scene_of m) es recorded → IsSome (requests_in o m t)
    → EndsStuck o.launch.set o.launch.opening o.launch.limits (known_in o m) (requests_in o m)

-- ---- rows of waits

abbrev pub MachinesBeginRows : Type 0
MachinesBeginRows = (o : Opening) (m : Machine) (es : List Entry) (plain : ℕ → Option On) → KeepsRun o m es
    → AreUnwritten m.queue es → InRow plain (scene_of m) es none_waited

-- Once each live thread has waited in the row, the plain run is stuck.
abbrev pub FullRowsEndMachines : Type 0
FullRowsEndMachines = (o : Opening) (m : Machine) (es : List Entry) (waited : ℕ → Option Why) (t : ℕ)
    → KeepsRun o m es → AllAskStores o m → InRow (plain_waits o m) (scene_of m) es waited
    → ((u : ℕ) → IsSome (requests_in o m u) → (why : Why) × (waited u ≡ Some why)) → IsSome (requests_in o m t)
    → EndsStuck o.launch.set o.launch.opening o.launch.limits (known_in o m) (requests_in o m)
