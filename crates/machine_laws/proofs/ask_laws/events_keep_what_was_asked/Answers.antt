use Rattle.machine_laws.proofs.AskEvents.{events-keep}
use Rattle.machine_laws.proofs.ask_laws.events_keep_what_was_asked.Goals as goal

pub returns : goal.returns
returns c = events-keep
