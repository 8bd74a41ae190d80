use Rattle.machine_laws.proofs.AskStarting.{starts}
use Rattle.machine_laws.proofs.ask_laws.machines_start_with_nothing_asked.Goals as goal

pub returns : goal.returns
returns c = record { starts = starts }
