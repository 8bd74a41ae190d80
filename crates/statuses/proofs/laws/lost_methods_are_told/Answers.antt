use Rattle.statuses.proofs.Whole.{called_told, lost_told}
use Rattle.statuses.proofs.laws.lost_methods_are_told.Goals as goal

pub returns : goal.returns
returns c = record { called = called_told; lost = lost_told }
