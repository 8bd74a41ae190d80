use Rattle.machine_laws.proofs.StopStarting.{starts_keep}
use Rattle.machine_laws.proofs.stop_laws.machines_start_with_allowed_stops.Goals as goal

pub returns : goal.returns
returns c = starts_keep
