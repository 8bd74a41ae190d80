use Rattle.converter.proofs.Left.{events_take_work, beginnings_add_work, stores_add_work}
use Rattle.converter.proofs.laws.events_take_work.Goals as goal

pub returns-clause-taken : goal.returns-clause-taken
returns-clause-taken c = events_take_work

pub returns-clause-begun : goal.returns-clause-begun
returns-clause-begun c = beginnings_add_work

pub returns-clause-stored : goal.returns-clause-stored
returns-clause-stored c = stores_add_work
