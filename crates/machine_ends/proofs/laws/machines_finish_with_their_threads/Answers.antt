use Rattle.machine_ends.proofs.Finishing.{runs-finish}
use Rattle.machine_ends.proofs.laws.machines_finish_with_their_threads.Goals as goal

pub returns : goal.returns
returns c = record { all = runs-finish }
