use Rattle.machine_laws.proofs.StopEvents.{events_keep}
use Rattle.machine_laws.proofs.stop_laws.events_keep_stops.Goals as goal

pub returns : goal.returns
returns c = events_keep
