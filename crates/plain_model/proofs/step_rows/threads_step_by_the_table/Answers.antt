use Rattle.std.proofs.Common.{refl}
use Rattle.std.specs.Int.{int_wrap}
use Rattle.plain_model.specs.Steps.{step}
use Rattle.plain_model.proofs.step_rows.threads_step_by_the_table.Goals as goal

pub returns-clause-monitors : goal.returns-clause-monitors
unfolding step int_wrap
returns-clause-monitors c = refl

pub returns-clause-threads : goal.returns-clause-threads
unfolding step int_wrap
returns-clause-threads c = refl

pub returns-clause-nearly : goal.returns-clause-nearly
unfolding step int_wrap
returns-clause-nearly c = refl

pub returns-clause-crowded : goal.returns-clause-crowded
unfolding step int_wrap
returns-clause-crowded c = refl

pub returns-clause-others : goal.returns-clause-others
unfolding step int_wrap
returns-clause-others c = refl

pub returns-clause-prints : goal.returns-clause-prints
unfolding step int_wrap
returns-clause-prints c = record { one = refl; both = refl; none = refl; more = refl }
