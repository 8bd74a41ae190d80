use Rattle.link_faults.proofs.Steps.{steps_tell}
use Rattle.link_faults.proofs.laws.steps_tell_what_is_asked.Goals as goal

pub returns : goal.returns
returns c = steps_tell
