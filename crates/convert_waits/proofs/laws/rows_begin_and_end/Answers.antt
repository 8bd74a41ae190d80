use Rattle.convert_waits.proofs.Rows.{rows_begin}
use Rattle.convert_waits.proofs.Full.{rows_hold, full_rows_wait_plainly, full_rows_are_stuck}
use Rattle.convert_waits.proofs.laws.rows_begin_and_end.Goals as goal

pub returns-clause-begin : goal.returns-clause-begin
returns-clause-begin c = rows_begin

pub returns-clause-hold : goal.returns-clause-hold
returns-clause-hold c = rows_hold

pub returns-clause-plain : goal.returns-clause-plain
returns-clause-plain c = full_rows_wait_plainly

pub returns-clause-stuck : goal.returns-clause-stuck
returns-clause-stuck c = full_rows_are_stuck
