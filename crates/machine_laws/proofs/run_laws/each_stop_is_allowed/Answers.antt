use Rattle.machine_laws.proofs.RunKeeping.{stops-allowed, world-shown}
use Rattle.machine_laws.proofs.run_laws.each_stop_is_allowed.Goals as goal

pub returns-clause-stops : goal.returns-clause-stops
returns-clause-stops c = stops-allowed c.every_stop_is_allowed.ensures.running

pub returns-clause-shown : goal.returns-clause-shown
returns-clause-shown c = world-shown
