use Rattle.machine_ends.proofs.Events.{lines-of-objects, starts-take-none}
use Rattle.machine_ends.proofs.ByKind.{events-keep-lines}
use Rattle.machine_ends.proofs.line_laws.events_keep_lines.Goals as goal

pub returns-clause-objects : goal.returns-clause-objects
returns-clause-objects c = lines-of-objects

pub returns-clause-starts : goal.returns-clause-starts
returns-clause-starts c = starts-take-none

pub returns-clause-events : goal.returns-clause-events
returns-clause-events c = events-keep-lines
