use Rattle.convert_waits.proofs.Passes.{passes_begin, passes_go_on, passes_skip, passes_fill}
use Rattle.convert_waits.proofs.laws.passes_fill_rows.Goals as goal

pub returns-clause-begin : goal.returns-clause-begin
returns-clause-begin c = passes_begin

pub returns-clause-on : goal.returns-clause-on
returns-clause-on c = passes_go_on

pub returns-clause-skip : goal.returns-clause-skip
returns-clause-skip c = passes_skip

pub returns-clause-fill : goal.returns-clause-fill
returns-clause-fill c = passes_fill
