-- One choice keeps or drops all stores of a closing region.
use Rattle.run_history.specs.Laws.{marks_in}
use Rattle.run_history.proofs.RegionLaws.{closing_allows, closing_not_open}
use Rattle.run_history.proofs.laws.a_closing_region_is_there_whole_or_not_at_all.Goals as goal

pub returns-clause-whole_or_not : goal.returns-clause-whole_or_not
returns-clause-whole_or_not c = λ past t g. closing_allows past.world.heap (marks_in past) t g

pub returns-clause-not_open : goal.returns-clause-not_open
returns-clause-not_open c = closing_not_open
