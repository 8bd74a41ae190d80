use Rattle.machine_threads.proofs.Ends.{stuck_runs_end, stuck_runs_tell_waits}
use Rattle.machine_threads.proofs.laws.stuck_runs_end.Goals as goal

pub returns-clause-ends : goal.returns-clause-ends
returns-clause-ends c = stuck_runs_end

pub returns-clause-told : goal.returns-clause-told
returns-clause-told c = stuck_runs_tell_waits
