-- The acts of a region keep the rules of a plain run, where its log is what the acts say.
use Rattle.std.specs.Prelude.{◌≡◌, ◌≢◌, ◌⊎◌, ◌<◌, true, false, [], length, Option, Some, None}
use Rattle.ap_base.specs.declared.place.Place.{Place}
use Rattle.graph_model.specs.declared.types.Value.{Value}
use Rattle.run_history.specs.declared.act.Op.TheVariants as op
use Rattle.run_history.specs.Knowing.{Knowledge, durable_at, guard_of}
use Rattle.plain_model.specs.Facts.{SetFacts}
use Rattle.plain_model.specs.Requests.{PlainRequest}
use Rattle.plain_model.specs.Runs.{IsAbout, MayGuard, MayClose, MayStore, MayEnd, is_volatile}
use Rattle.stop_theorem.specs.Layouts.{Layout}
use Rattle.region_log.specs.declared.entry.EndStage.TheVariants.{Writing, Cleared}
use Rattle.region_log.specs.declared.entry.Underway.TheVariants.{Nothing, Ending}
use Rattle.region_log.specs.Log.{Log}
use Rattle.region_log.specs.Stages.{EndsAtOnce, end_stage}
use Rattle.region_events.specs.Guards.{KeepsGuards}

-- of every log that is what is known, whose thread asks this request
abbrev pub OfRequests : (SetFacts → Knowledge → Option PlainRequest → Log → Type 0) → Type 0
OfRequests P = (set : SetFacts) (known : Knowledge) (lay : Layout) (request : Option PlainRequest) (log : Log)
    → KeepsGuards known lay log → P set known request log

abbrev pub GuardsMayCome : Type 0
GuardsMayCome = OfRequests (λ set known request log. (p : Place) (v : Value) → log.underway ≡ Nothing
    → 0 < log.depth → durable_at known p ≡ true → guard_of known.guards p ≡ None
    → is_volatile known.durable v ≡ false → IsAbout set known request log.thread (op.Stored p v)
    → MayGuard set known request log.thread p)

abbrev pub StoresMayCome : Type 0
StoresMayCome = OfRequests (λ set known request log. (p : Place) (v : Value)
    → guard_of known.guards p ≡ Some log.thread → IsAbout set known request log.thread (op.Stored p v)
    → MayStore set known request log.thread p v)

abbrev pub ClosingsMayCome : Type 0
ClosingsMayCome = OfRequests (λ set known request log. log.depth ≡ 1
    → end_stage log.underway ≡ Writing (length log.entries) → log.entries ≢ []
    → IsAbout set known request log.thread op.End → MayClose set known request log.thread)

-- behind the last call of a region that logged something, and at once
abbrev pub EndsMayCome : Type 0
EndsMayCome = OfRequests (λ set known request log.
    (log.underway ≡ Ending Cleared) ⊎ ((log.underway ≡ Nothing) × EndsAtOnce log)
    → IsAbout set known request log.thread op.End → MayEnd set known request log.thread)
