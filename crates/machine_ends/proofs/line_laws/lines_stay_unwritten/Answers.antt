use Rattle.machine_ends.proofs.ByKind.{events-unwritten}
use Rattle.machine_ends.proofs.Unwritten.{starts-unwritten}
use Rattle.machine_ends.proofs.line_laws.lines_stay_unwritten.Goals as goal

pub returns-clause-starts : goal.returns-clause-starts
returns-clause-starts c = starts-unwritten

pub returns-clause-events : goal.returns-clause-events
returns-clause-events c = events-unwritten
