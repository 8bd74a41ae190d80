-- The End makes a closing region's stores sure.
use Rattle.run_history.proofs.RegionLaws.{end_allows, end_leaves_no_region}
use Rattle.run_history.proofs.laws.an_ended_region_is_there.Goals as goal

pub returns-clause-there : goal.returns-clause-there
returns-clause-there c = end_allows

pub returns-clause-leaves_none : goal.returns-clause-leaves_none
returns-clause-leaves_none c = end_leaves_no_region
