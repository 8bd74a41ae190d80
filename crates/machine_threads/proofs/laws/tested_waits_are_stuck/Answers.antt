use Rattle.machine_threads.proofs.Testing.{live_threads_ask, tested_waits_are_stuck, tested_waits_end}
use Rattle.machine_threads.proofs.laws.tested_waits_are_stuck.Goals as goal

pub returns-clause-live : goal.returns-clause-live
returns-clause-live c = live_threads_ask

pub returns-clause-stuck : goal.returns-clause-stuck
returns-clause-stuck c = tested_waits_are_stuck c.machines_ask_as_plain_runs.ensures.ready

pub returns-clause-end : goal.returns-clause-end
returns-clause-end c = tested_waits_end c.machines_ask_as_plain_runs.ensures.ready
