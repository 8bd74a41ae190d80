use Rattle.std.proofs.Common.{refl, ◌∙◌}
use Rattle.natives.specs.declared.requests.Reply.TheVariants as reply
use Rattle.run_history.specs.declared.act.Op.TheVariants as op
use Rattle.run_history.specs.declared.act.Stage.TheVariants as stage
use Rattle.plain_model.specs.Steps.{Does}
use Rattle.shared_objects.specs.Worlds.{world_of}
use Rattle.step_forms.proofs.Going.{did_goes, same_goes}
use Rattle.world_steps.proofs.Worldly.{step_init}
use Rattle.world_steps.proofs.initialisation.init.Goals as goal

pub returns-in-Some-clause-step : goal.returns-in-Some-clause-step
returns-in-Some-clause-step c set shown from known =
    same_goes (λ roots taken. step_init set (world_of roots shown c.args.rest.now) c.args.t taken from
    c.args.class)
    (c.in-Some.ensures.first set shown (λ roots taken. Does (op.Init c.args.class stage.Ready) reply.Done) known)

pub returns-clause-step : goal.returns-clause-step
returns-clause-step c set shown from known =
    rw c.in_default.ensures.first.1 (did_goes (op.Init c.args.class stage.Ready) reply.Done
    (λ roots. step_init set (world_of roots shown c.args.rest.now) c.args.t 1 from c.args.class
    ∙ c.in_default.ensures.first.0 set (world_of roots shown c.args.rest.now) (Does (op.Init c.args.class
    stage.Ready) reply.Done) refl)
    tt refl tt (λ roots. refl) known)
