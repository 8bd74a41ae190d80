use Rattle.stop_theorem.proofs.Kept.{region_keeps, closing_keeps, lowered_keeps, ends_keep}
use Rattle.stop_theorem.proofs.region_laws.regions_keep_stops.Goals as goal

pub returns-clause-stored : goal.returns-clause-stored
returns-clause-stored c = region_keeps

pub returns-clause-closing : goal.returns-clause-closing
returns-clause-closing c = closing_keeps

pub returns-clause-lowered : goal.returns-clause-lowered
returns-clause-lowered c = lowered_keeps

pub returns-clause-ended : goal.returns-clause-ended
returns-clause-ended c = ends_keep
