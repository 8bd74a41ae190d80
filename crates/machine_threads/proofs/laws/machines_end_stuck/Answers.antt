use Rattle.machine_threads.proofs.Stuck.{claimers_live, full_rows_end_machines, machines_begin_rows, stuck_machines_end}
use Rattle.machine_threads.proofs.Stuck.{records_are_right, stuck_records_end_machines}
use Rattle.machine_threads.proofs.laws.machines_end_stuck.Goals as goal

pub returns-clause-ends : goal.returns-clause-ends
returns-clause-ends c = stuck_machines_end

pub returns-clause-live : goal.returns-clause-live
returns-clause-live c = claimers_live

pub returns-clause-right : goal.returns-clause-right
returns-clause-right c = records_are_right

pub returns-clause-records : goal.returns-clause-records
returns-clause-records c = stuck_records_end_machines

pub returns-clause-begin : goal.returns-clause-begin
returns-clause-begin c = machines_begin_rows

pub returns-clause-rows : goal.returns-clause-rows
returns-clause-rows c = full_rows_end_machines
