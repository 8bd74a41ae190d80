use Rattle.machine_threads.proofs.Stuck.{fences_dont_wait, ready_threads_wait_alike}
use Rattle.machine_threads.proofs.laws.threads_wait_as_they_ask.Goals as goal

pub returns-clause-ready : goal.returns-clause-ready
returns-clause-ready c = ready_threads_wait_alike c.machines_ask_as_plain_runs.ensures.ready

pub returns-clause-fences : goal.returns-clause-fences
returns-clause-fences c = fences_dont_wait
