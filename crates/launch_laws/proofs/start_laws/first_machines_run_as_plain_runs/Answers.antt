use Rattle.launch_laws.proofs.Frames.{runs_as_plain}
use Rattle.launch_laws.proofs.start_laws.first_machines_run_as_plain_runs.Goals as goal

pub returns : goal.returns
returns c o lines m es first frames begins = runs_as_plain o lines m es first frames begins
