use Rattle.convert_waits.proofs.Stuck.{stuck_runs_wait_plainly}
use Rattle.convert_waits.proofs.laws.stuck_runs_wait_plainly.Goals as goal

pub returns : goal.returns
returns c = stuck_runs_wait_plainly
