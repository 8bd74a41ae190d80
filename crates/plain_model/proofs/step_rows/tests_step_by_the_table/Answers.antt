use Rattle.std.proofs.Common.{refl}
use Rattle.plain_model.specs.Steps.{step}
use Rattle.plain_model.proofs.step_rows.tests_step_by_the_table.Goals as goal

pub returns : goal.returns
unfolding step
returns c = refl
