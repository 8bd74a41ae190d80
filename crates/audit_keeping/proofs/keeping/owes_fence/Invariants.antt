use Rattle.std.proofs.Common.{◌≡◌, map, length}
use Rattle.run_history.specs.Knowing.{owes_fence}
use Rattle.audit_keeping.specs.Keeping.{owed_in}
use Rattle.audit_keeping.proofs.keeping.owes_fence.Given as goal

abbrev pub invariant-owed : goal.invariant-owed
invariant-owed l = owes_fence (map owed_in l.rest) l.t ≡ owes_fence (map owed_in l.unfenced) l.t

abbrev pub decreases-owed : goal.decreases-owed
decreases-owed l = length l.rest
