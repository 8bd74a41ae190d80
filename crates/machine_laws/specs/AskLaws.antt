-- Each act of a machine may come next in a plain run, and each event leaves what was asked and what is owed
-- as the acts say.
use Rattle.std.specs.Prelude.{◌≡◌, ◌↔◌, ℕ, ◌<◌, ◌≤◌, ◌^◌, List, [], length, replicate, Option, Some, None, IfSome}
use Rattle.ap_base.specs.declared.reference.Ref.{Ref}
use Rattle.ap_base.specs.declared.reference.Item.{Item}
use Rattle.natives.specs.declared.requests.Request.{Request}
use Rattle.image_layout.specs.Places.{min_lines}
use Rattle.line_memory.specs.Memory.{IsTelling}
use Rattle.run_history.specs.Recorded.{Recorded}
use Rattle.plain_model.specs.First.{IsOpening}
use Rattle.plain_model.specs.Requests.{PlainRequest}
use Rattle.plain_model.specs.Runs.{MayAct}
use Rattle.shared_objects.specs.Plain.{plain_request}
use Rattle.twin_forms.specs.Table.{Entry, IsClaimed, InP}
use Rattle.convert_queue.specs.Queues.{queue_of}
use Rattle.machine_forms.specs.declared.doing.Doing.TheVariants.{Nothing}
use Rattle.machine_forms.specs.Machines.{Opening, Machine, known_in, wants_in, shown_in, memory_of, log_of, empty_log}
use Rattle.machine_forms.specs.Keeping.{KeepsRun, KeepsAsked}
use Rattle.region_log.specs.Kept.{Counts}
use Rattle.machine_forms.specs.Happening.{Happens, OfEvents, act_of, request_of}

-- of every machine that keeps its run
abbrev pub OfRuns : (Opening → Machine → List Entry → Type 0) → Type 0
OfRuns P = (o : Opening) (m : Machine) (es : List Entry) → KeepsRun o m es → P o m es

-- ---- the start

-- No act is made, no thread is about anything, and nothing is claimed. The nodes of the opening graph are
-- durable. Each log is empty, and that is durable.
pub record IsAtStart (o : Opening) (m : Machine) (es : List Entry) : Type 0 where
  pub opening : IsOpening o.launch.set o.launch.opening
  pub acts : m.acts ≡ []
  pub doing : m.doing ≡ replicate 64 Nothing
  pub queue : (t : ℕ) → queue_of m.queue t ≡ []
  pub claimed : (t n : ℕ) → IsClaimed es t n → ⊥
  pub durable : (n : ℕ) → InP es n ↔ (n < length o.launch.opening.nodes)
  pub few : (memory_of m).calls < 2 ^ 64
  pub logs : length m.logs ≡ 64
  pub empty : (t : ℕ) → t < 64 → log_of m t ≡ empty_log t
  pub long : min_lines ≤ (memory_of m).size
  pub counts : (t : ℕ) → t < 64 → IsTelling (memory_of m).image.trace → Counts (memory_of m) t 0

abbrev pub StartsKeepAsked : Type 0
StartsKeepAsked = (o : Opening) (m : Machine) (es : List Entry) → IsAtStart o m es → KeepsAsked o m es

-- ---- which acts may come

-- The act may come next, whose thread asks this.
abbrev pub MayCome : Opening → Machine → Option PlainRequest → Recorded → Type 0
MayCome o m asks a = MayAct o.launch.set (known_in o m) (wants_in o m) asks a

-- what the request asks of the plain machine
abbrev pub asked_by : Machine → Request Ref Item → Option PlainRequest
asked_by m request = Some (plain_request (shown_in m).number request)

-- what the thread asks: the request that the event does; any, where it does none
abbrev pub asked_with : Machine → Option (Request Ref Item) → Option PlainRequest → Option PlainRequest
asked_with m None asks = asks
asked_with m (Some request) asks = asked_by m request

abbrev pub ActsMayCome : Type 0
ActsMayCome = (o : Opening) (t : ℕ) (m m' : Machine) (es es' : List Entry) → KeepsRun o m es
    → (e : Happens o t m es m' es') (asks : Option PlainRequest)
    → IfSome (act_of e) (λ a. MayCome o m (asked_with m (request_of e) asks) a)

-- ---- events

abbrev pub EventsKeepAsked : Type 0
EventsKeepAsked = OfEvents (λ o m es m' es'. KeepsAsked o m' es')
