use Rattle.machine_threads.proofs.Ends.{full_rows_end_runs, full_rows_tell_waits}
use Rattle.machine_threads.proofs.Plainly.{plain_waits_are_no_conversions}
use Rattle.machine_threads.proofs.laws.full_rows_end_runs.Goals as goal

pub returns-clause-no_conversion : goal.returns-clause-no_conversion
returns-clause-no_conversion c = plain_waits_are_no_conversions

pub returns-clause-ends : goal.returns-clause-ends
returns-clause-ends c = full_rows_end_runs

pub returns-clause-told : goal.returns-clause-told
returns-clause-told c = full_rows_tell_waits
