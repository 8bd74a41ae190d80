use Rattle.std.proofs.Common.{refl}
use Rattle.natives.specs.declared.requests.Reply.TheVariants as reply
use Rattle.run_history.specs.declared.act.Op.TheVariants as op
use Rattle.run_history.specs.declared.act.Stage.TheVariants as stage
use Rattle.shared_objects.specs.Worlds.{world_of}
use Rattle.step_forms.proofs.Going.{did_goes}
use Rattle.world_steps.proofs.Worldly.{step_init_done}
use Rattle.world_steps.proofs.initialisation.init_done.Goals as goal

pub returns-clause-step : goal.returns-clause-step
returns-clause-step c set t shown from known = did_goes (op.Init c.args.class stage.Done) reply.Done
    (λ roots. step_init_done set (world_of roots shown c.args.rest.now) t 1 from c.args.class) tt refl tt (λ
    roots. refl) known
