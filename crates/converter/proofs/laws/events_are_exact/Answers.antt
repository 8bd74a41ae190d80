use Rattle.converter.proofs.Exact.{settled_groups_are_sealed}
use Rattle.converter.proofs.laws.events_are_exact.Goals as goal

pub returns : goal.returns
returns c = record { sealed = settled_groups_are_sealed }
