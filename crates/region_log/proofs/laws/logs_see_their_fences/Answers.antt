use Rattle.region_log.proofs.Fencing.{logging-sees, ending-sees}
use Rattle.region_log.proofs.laws.logs_see_their_fences.Goals as goal

pub returns-clause-logging : goal.returns-clause-logging
returns-clause-logging c = logging-sees

pub returns-clause-ending : goal.returns-clause-ending
returns-clause-ending c = ending-sees
