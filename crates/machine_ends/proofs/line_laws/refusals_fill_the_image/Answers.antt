use Rattle.machine_ends.proofs.Refused.{steps-fill, beginnings-fill, refusals-end}
use Rattle.machine_ends.proofs.line_laws.refusals_fill_the_image.Goals as goal

pub returns-clause-steps : goal.returns-clause-steps
returns-clause-steps c = steps-fill

pub returns-clause-begins : goal.returns-clause-begins
returns-clause-begins c = beginnings-fill

pub returns-clause-ends : goal.returns-clause-ends
returns-clause-ends c = refusals-end
