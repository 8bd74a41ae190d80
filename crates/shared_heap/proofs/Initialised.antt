-- The step of a request for the initialisation of a class that is initialised.
use Rattle.std.proofs.Common.{◌≡◌, ◌∙◌, ℕ, Some, refl}
use Rattle.std.specs.Prelude.{slice_get}
use Rattle.run_types.specs.declared.resolved.At.{At}
use Rattle.natives.specs.declared.requests.Request.TheVariants as ask
use Rattle.natives.specs.declared.requests.Reply.TheVariants as reply
use Rattle.run_history.specs.declared.act.Op.TheVariants as op
use Rattle.run_history.specs.declared.act.Stage.TheVariants as stage
use Rattle.run_history.specs.declared.plain.Progress.TheVariants.{Finished}
use Rattle.run_history.specs.Worlds.{World}
use Rattle.plain_model.specs.Facts.{SetFacts}
use Rattle.plain_model.specs.Steps.{Does, step, with_class}
use Rattle.shared_objects.specs.declared.rest.Rest.{Rest}
use Rattle.shared_objects.specs.Shown.{Shown}
use Rattle.shared_objects.specs.Worlds.{KnowsMonitors, world_of}
use Rattle.step_forms.specs.declared.stepped.Stepped.TheVariants as stepped
use Rattle.step_forms.specs.Follows.{IsStep}
use Rattle.step_forms.proofs.Going.{did_goes}
use Rattle.step_forms.proofs.Ways.{class_finished}

init_is : (set : SetFacts) (world : World) (t taken : ℕ) (from : At) (class : ℕ) → step set world t taken (ask.Init from class)
    ≡ with_class set world t class (Does (op.Init class stage.Ready) reply.Done)
unfolding step
init_is set world t taken from class = refl

pub init_goes : (set : SetFacts) (t class : ℕ) (from : At) (shown : Shown) (rest : Rest)
    → slice_get rest.classes.items class ≡ Some Finished → KnowsMonitors shown rest
    → IsStep set t (ask.Init from class) shown rest (stepped.Did (op.Init class stage.Ready) reply.Done) shown rest
init_goes set t class from shown rest is known = did_goes (op.Init class stage.Ready) reply.Done
    (λ roots. init_is set (world_of roots shown rest) t 1 from class
    ∙ class_finished set (world_of roots shown rest) t class (Does (op.Init class stage.Ready) reply.Done) is)
    tt refl tt (λ roots. refl) known
