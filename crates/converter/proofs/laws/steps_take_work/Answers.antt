use Rattle.converter.proofs.Worked.{copies_take_work, forwards_take_work, repairs_take_work, writes_take_work, fences_take_work}
use Rattle.converter.proofs.laws.steps_take_work.Goals as goal

pub returns-clause-copied : goal.returns-clause-copied
returns-clause-copied c = copies_take_work

pub returns-clause-forwarded : goal.returns-clause-forwarded
returns-clause-forwarded c = forwards_take_work

pub returns-clause-repaired : goal.returns-clause-repaired
returns-clause-repaired c = repairs_take_work

pub returns-clause-written : goal.returns-clause-written
returns-clause-written c = writes_take_work

pub returns-clause-fenced : goal.returns-clause-fenced
returns-clause-fenced c = fences_take_work
