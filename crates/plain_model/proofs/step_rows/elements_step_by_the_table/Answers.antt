use Rattle.std.proofs.Common.{refl}
use Rattle.std.specs.Int.{int_wrap}
use Rattle.plain_model.specs.Steps.{step}
use Rattle.plain_model.proofs.step_rows.elements_step_by_the_table.Goals as goal

pub returns-clause-reads : goal.returns-clause-reads
unfolding step int_wrap
returns-clause-reads c = refl

pub returns-clause-stores : goal.returns-clause-stores
unfolding step int_wrap
returns-clause-stores c = refl

pub returns-clause-kinds : goal.returns-clause-kinds
returns-clause-kinds c = refl
