use Rattle.region_events.proofs.Starting.{empty_logs_stand, one_entry}
use Rattle.region_events.proofs.laws.logs_stand_at_the_start.Goals as goal

pub returns-clause-start : goal.returns-clause-start
returns-clause-start c = empty_logs_stand

pub returns-clause-guarded : goal.returns-clause-guarded
returns-clause-guarded c = one_entry
