use Rattle.world_steps.proofs.Resting.{leave_goes}
use Rattle.world_steps.proofs.threads.leave.Goals as goal

pub returns-clause-step : goal.returns-clause-step
returns-clause-step c set shown from known = leave_goes c.args.t shown c.args.rest.now known set c.args.uncaught
    c.leave.new.self c.leave.ensures.ended
