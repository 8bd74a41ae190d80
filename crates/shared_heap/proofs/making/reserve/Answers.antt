use Rattle.shared_heap.proofs.Logging.{all_empty}
use Rattle.shared_heap.proofs.making.reserve.Goals as goal

pub returns-clause-logs : goal.returns-clause-logs
returns-clause-logs c = all_empty c.in_ok-logs.logs.logs c.stand_apart.ensures.count c.in_ok-logs.ensures.empty
