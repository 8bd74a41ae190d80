-- No choice keeps a store of an open region.
use Rattle.run_history.specs.Laws.{marks_in}
use Rattle.run_history.proofs.RegionLaws.{open_allows}
use Rattle.run_history.proofs.laws.an_open_region_is_never_there.Goals as goal

pub returns : goal.returns
returns c = record { never = λ past g. open_allows past.world.heap (marks_in past) g }
