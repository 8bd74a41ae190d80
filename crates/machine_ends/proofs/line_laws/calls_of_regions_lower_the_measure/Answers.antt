use Rattle.machine_ends.proofs.LineRegions.{logging-lowers, ending-lowers, guards-add}
use Rattle.machine_ends.proofs.line_laws.calls_of_regions_lower_the_measure.Goals as goal

pub returns-clause-logging : goal.returns-clause-logging
returns-clause-logging c = logging-lowers

pub returns-clause-ending : goal.returns-clause-ending
returns-clause-ending c = ending-lowers

pub returns-clause-acts : goal.returns-clause-acts
returns-clause-acts c = guards-add
