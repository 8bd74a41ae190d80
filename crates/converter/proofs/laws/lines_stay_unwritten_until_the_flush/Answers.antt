use Rattle.converter.proofs.Unwritten.{first_lines_are_unwritten, beginnings_stay_unwritten, events_stay_unwritten}
use Rattle.converter.proofs.Unwritten.{stores_stay_unwritten}
use Rattle.converter.proofs.laws.lines_stay_unwritten_until_the_flush.Goals as goal

pub returns-clause-first : goal.returns-clause-first
returns-clause-first c = first_lines_are_unwritten

pub returns-clause-begun : goal.returns-clause-begun
returns-clause-begun c = beginnings_stay_unwritten

pub returns-clause-events : goal.returns-clause-events
returns-clause-events c = events_stay_unwritten

pub returns-clause-stored : goal.returns-clause-stored
returns-clause-stored c = stores_stay_unwritten
