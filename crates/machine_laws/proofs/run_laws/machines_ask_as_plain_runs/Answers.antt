use Rattle.machine_laws.proofs.Persisting.{ready-ask, idle-stand}
use Rattle.machine_laws.proofs.run_laws.machines_ask_as_plain_runs.Goals as goal

pub returns-clause-acts : goal.returns-clause-acts
returns-clause-acts c o m es threads run plain = plain.stands.run

pub returns-clause-ready : goal.returns-clause-ready
returns-clause-ready c = ready-ask c.machines_go_on_as_plain_runs.ensures.asks

pub returns-clause-idle : goal.returns-clause-idle
returns-clause-idle c = idle-stand
