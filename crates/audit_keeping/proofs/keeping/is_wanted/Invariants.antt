use Rattle.std.proofs.Common.{◌≡◌, length}
use Rattle.audit_keeping.specs.Keeping.{wanted_in}
use Rattle.audit_keeping.proofs.keeping.is_wanted.Given as goal

abbrev pub invariant-asked : goal.invariant-asked
invariant-asked l = wanted_in l.rest l.n ≡ wanted_in l.asked l.n

abbrev pub decreases-asked : goal.decreases-asked
decreases-asked l = length l.rest
