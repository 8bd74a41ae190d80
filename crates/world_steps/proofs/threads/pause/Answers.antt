use Rattle.std.proofs.Common.{refl}
use Rattle.natives.specs.declared.requests.Reply.TheVariants as reply
use Rattle.run_history.specs.declared.act.Op.TheVariants as op
use Rattle.shared_objects.specs.Worlds.{world_of}
use Rattle.step_forms.proofs.Going.{did_goes}
use Rattle.world_steps.proofs.Worldly.{step_pause}
use Rattle.world_steps.proofs.threads.pause.Goals as goal

pub returns-clause-step : goal.returns-clause-step
returns-clause-step c set t rest shown from known =
    did_goes op.Pause reply.Done (λ roots. step_pause set (world_of roots shown rest) t 1 from) tt refl tt (λ
    roots. refl) known
