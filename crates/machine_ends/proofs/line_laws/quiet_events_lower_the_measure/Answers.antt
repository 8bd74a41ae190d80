use Rattle.machine_ends.proofs.Measure.{quiet-lowers, acts-add-two}
use Rattle.machine_ends.proofs.line_laws.quiet_events_lower_the_measure.Goals as goal

pub returns-clause-quiet : goal.returns-clause-quiet
returns-clause-quiet c = quiet-lowers

pub returns-clause-acts : goal.returns-clause-acts
returns-clause-acts c = acts-add-two
