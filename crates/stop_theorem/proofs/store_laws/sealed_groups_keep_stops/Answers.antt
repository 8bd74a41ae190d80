use Rattle.stop_theorem.proofs.Joined.{joins_keep}
use Rattle.stop_theorem.proofs.store_laws.sealed_groups_keep_stops.Goals as goal

pub returns : goal.returns
returns c = joins_keep
