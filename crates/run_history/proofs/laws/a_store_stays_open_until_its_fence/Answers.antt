-- A single store adds what it leaves, and its fence leaves that alone.
use Rattle.run_history.proofs.StoreLaws.{store_allows, fenced_store_allows}
use Rattle.run_history.proofs.laws.a_store_stays_open_until_its_fence.Goals as goal

pub returns-clause-open : goal.returns-clause-open
returns-clause-open c = store_allows

pub returns-clause-fenced : goal.returns-clause-fenced
returns-clause-fenced c = fenced_store_allows
