use Rattle.converter.proofs.Named.{seals_name_queues, queues_name_once}
use Rattle.converter.proofs.laws.seals_name_what_was_queued.Goals as goal

pub returns-clause-named : goal.returns-clause-named
returns-clause-named c = seals_name_queues

pub returns-clause-once : goal.returns-clause-once
returns-clause-once c = queues_name_once
