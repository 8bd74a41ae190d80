use Rattle.machine_ends.proofs.Working.{calls-leave, writes-take, fences-take, conversions-take, beginnings-add, seals-add}
use Rattle.machine_ends.proofs.Working.{asked-adds, acts-add, stores-add}
use Rattle.machine_ends.proofs.line_laws.events_take_work.Goals as goal

pub returns-clause-calls : goal.returns-clause-calls
returns-clause-calls c = calls-leave

pub returns-clause-writes : goal.returns-clause-writes
returns-clause-writes c = writes-take

pub returns-clause-fences : goal.returns-clause-fences
returns-clause-fences c = fences-take

pub returns-clause-steps : goal.returns-clause-steps
returns-clause-steps c = conversions-take

pub returns-clause-begins : goal.returns-clause-begins
returns-clause-begins c = beginnings-add

pub returns-clause-seals : goal.returns-clause-seals
returns-clause-seals c = seals-add

pub returns-clause-asked : goal.returns-clause-asked
returns-clause-asked c = asked-adds

pub returns-clause-beside : goal.returns-clause-beside
returns-clause-beside c = acts-add

pub returns-clause-durable : goal.returns-clause-durable
returns-clause-durable c = stores-add
