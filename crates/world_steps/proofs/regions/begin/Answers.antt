use Rattle.world_steps.proofs.Resting.{begin_goes}
use Rattle.world_steps.proofs.regions.begin.Goals as goal

pub returns-clause-step : goal.returns-clause-step
returns-clause-step c set shown from known = begin_goes c.args.t shown c.args.rest.now known set from c.begin.new.self
    c.requires.counts c.begin.ensures.deeper
