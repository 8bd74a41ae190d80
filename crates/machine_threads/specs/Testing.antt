-- Waits as they are tested: the run is stuck exactly where the last event of each live thread waited in the plain world, and its
-- step would wait for the same now.
use Rattle.std.specs.Prelude.{◌≡◌, ◌↔◌, ℕ, ◌<◌, false, List, length, slice_get, slice_index_or, Option, Some, None, IsSome}
use Rattle.ap_base.specs.declared.reference.Ref.{Ref}
use Rattle.ap_base.specs.declared.reference.Item.{Item}
use Rattle.run_types.specs.declared.wait.On.{On}
use Rattle.run_types.specs.declared.fault.RunFault.TheVariants as fault
use Rattle.graph_model.specs.declared.types.Root.{Root}
use Rattle.natives.specs.declared.requests.Request.{Request}
use Rattle.plain_model.specs.Facts.{SetFacts}
use Rattle.plain_model.specs.Steps.{step}
use Rattle.plain_model.specs.Ends.{wait_of}
use Rattle.shared_objects.specs.declared.threads.ThreadState.{ThreadState}
use Rattle.shared_objects.specs.Plain.{plain_request}
use Rattle.shared_objects.specs.Worlds.{world_of}
use Rattle.run_forms.specs.Views.{ThreadFrames}
use Rattle.run_forms.specs.Ends.{IsEndedBy}
use Rattle.convert_waits.specs.Stuck.{IsPlain, IsStuckAt}
use Rattle.twin_forms.specs.Table.{Entry}
use Rattle.machine_ends.specs.Passed.{Opening, Machine, doing_of, roots_in, scene_of, shown_in}
use Rattle.machine_ends.specs.Passed.{Asks, IsReady, OfPlain}
use Rattle.machine_threads.specs.Keeping.{AllKeep}
use Rattle.machine_threads.specs.Plain.{asks_some}
use Rattle.machine_threads.specs.Stuck.{AreRecorded, plain_waits, requests_in}

-- ---- threads that live

-- Thread t was started, and hasn't ended.
abbrev pub IsLive : Machine → ℕ → Type 0
IsLive m t = (state : ThreadState) × (slice_get m.rest.threads t ≡ Some state) × (state.ended ≡ false)

-- Where as many threads have frames as were started, those that live ask something, and no other does.
abbrev pub LiveThreadsAsk : Type 0
LiveThreadsAsk = OfPlain (λ o m es threads. length threads ≡ length m.rest.threads
    → (t : ℕ) → IsSome (requests_in o m t) ↔ IsLive m t)

-- ---- what is noted of them

-- What is noted of each thread's last event: the request that isn't answered, which its own frames ask still; and beside it the
-- wait of an event that waited, of a thread that owes no fence.
pub record AreNoted (o : Opening) (m : Machine) (es : List Entry) (threads : List ThreadFrames)
    (asked : ℕ → Option (Request Ref Item)) (waited : ℕ → Option On) : Type 0 where
  pub asks : (t : ℕ) (request : Request Ref Item) → asked t ≡ Some request
      → (fs : ThreadFrames) × Asks o m threads t fs request
  pub beside : (t : ℕ) (on : On) → waited t ≡ Some on → IsSome (asked t)
  pub ready : (t : ℕ) (on : On) → waited t ≡ Some on → IsReady (doing_of m t)
  pub recorded : AreRecorded es waited

-- Thread t's last event waited in the plain world, and over these durable roots its step would wait for the same now.
pub record WaitsStill (set : SetFacts) (m : Machine) (roots : List Root) (asked : ℕ → Option (Request Ref Item))
    (waited : ℕ → Option On) (t : ℕ) : Type 0 where
  pub on : On
  pub noted : waited t ≡ Some on
  pub plain : IsPlain on
  pub request : Request Ref Item
  pub asks : asked t ≡ Some request
  pub holds : wait_of (step set (world_of roots (shown_in m) m.rest) t 1 (plain_request (shown_in m).number request))
      ≡ Some on

abbrev pub AllWaitStill : SetFacts → Machine → List Root → (ℕ → Option (Request Ref Item)) → (ℕ → Option On) → Type 0
AllWaitStill set m roots asked waited = (t : ℕ) → IsLive m t → WaitsStill set m roots asked waited t

-- ---- the run

abbrev pub TestedWaitsAreStuck : Type 0
TestedWaitsAreStuck = OfPlain (λ o m es threads. (asked : ℕ → Option (Request Ref Item)) (waited : ℕ → Option On)
    → length threads ≡ length m.rest.threads → AllKeep o m es threads → AreNoted o m es threads asked waited
    → AllWaitStill o.launch.set m (roots_in o m) asked waited
    ↔ IsStuckAt (plain_waits o m) (asks_some (requests_in o m)) (scene_of m) es waited)

-- the wait that a list has of a thread
abbrev pub wait_in : List (Option On) → ℕ → Option On
wait_in waits t = slice_index_or waits t None

-- While there is room for an act, the event of a thread that lives ends the run with the waits as they are noted of the 64
-- threads.
abbrev pub TestedWaitsEnd : Type 0
TestedWaitsEnd = OfPlain (λ o m es threads. (asked : ℕ → Option (Request Ref Item)) (waits : List (Option On)) (lines t : ℕ)
    → length threads ≡ length m.rest.threads → length waits ≡ 64 → AllKeep o m es threads
    → AreNoted o m es threads asked (wait_in waits) → AllWaitStill o.launch.set m (roots_in o m) asked (wait_in waits)
    → IsLive m t → length m.acts < o.launch.limits.acts
    → IsEndedBy o.launch lines m.acts t (fault.Stuck waits))
