use Rattle.std.proofs.Common.{refl}
use Rattle.std.specs.Int.{int_wrap}
use Rattle.plain_model.specs.Steps.{step}
use Rattle.plain_model.proofs.step_rows.objects_and_fields_step_by_the_table.Goals as goal

pub returns-clause-making : goal.returns-clause-making
unfolding step int_wrap
returns-clause-making c = refl

pub returns-clause-statics : goal.returns-clause-statics
unfolding step int_wrap
returns-clause-statics c = refl

pub returns-clause-fields : goal.returns-clause-fields
unfolding step int_wrap
returns-clause-fields c = refl
