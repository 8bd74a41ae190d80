use Rattle.machine_laws.proofs.AskEvents.{acts-may-come}
use Rattle.machine_laws.proofs.ask_laws.each_act_may_come.Goals as goal

pub returns : goal.returns
returns c = acts-may-come
