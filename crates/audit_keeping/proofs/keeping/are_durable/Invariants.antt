use Rattle.std.proofs.Common.{◌≡◌, length}
use Rattle.audit_keeping.specs.Keeping.{are_durable_in}
use Rattle.audit_keeping.proofs.keeping.are_durable.Given as goal

abbrev pub invariant-values : goal.invariant-values
invariant-values l = are_durable_in l.marks l.rest ≡ are_durable_in l.marks l.values

abbrev pub decreases-values : goal.decreases-values
decreases-values l = length l.rest
