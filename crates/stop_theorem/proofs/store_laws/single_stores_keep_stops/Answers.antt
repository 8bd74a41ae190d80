use Rattle.stop_theorem.proofs.Single.{single_keeps}
use Rattle.stop_theorem.proofs.Waiting.{stands_waits}
use Rattle.stop_theorem.proofs.Fencing.{after_fence, fences_keep}
use Rattle.stop_theorem.proofs.store_laws.single_stores_keep_stops.Goals as goal

pub returns-clause-stored : goal.returns-clause-stored
returns-clause-stored c = single_keeps

pub returns-clause-written : goal.returns-clause-written
returns-clause-written c = stands_waits

pub returns-clause-fenced : goal.returns-clause-fenced
returns-clause-fenced c = fences_keep

pub returns-clause-settled : goal.returns-clause-settled
returns-clause-settled c = after_fence
