use Rattle.region_events.proofs.Rules.{guards_may_come, stores_may_come, closings_may_come, ends_may_come}
use Rattle.region_events.proofs.laws.regions_keep_the_rules.Goals as goal

pub returns-clause-guards : goal.returns-clause-guards
returns-clause-guards c = guards_may_come

pub returns-clause-stores : goal.returns-clause-stores
returns-clause-stores c = stores_may_come

pub returns-clause-closes : goal.returns-clause-closes
returns-clause-closes c = closings_may_come

pub returns-clause-ends : goal.returns-clause-ends
returns-clause-ends c = ends_may_come
