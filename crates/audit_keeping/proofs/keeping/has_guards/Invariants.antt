use Rattle.std.proofs.Common.{◌≡◌, map, length}
use Rattle.run_history.specs.Knowing.{has_guards}
use Rattle.audit_keeping.specs.Keeping.{guard_in}
use Rattle.audit_keeping.proofs.keeping.has_guards.Given as goal

abbrev pub invariant-guards : goal.invariant-guards
invariant-guards l = has_guards (map guard_in l.rest) l.t ≡ has_guards (map guard_in l.guards) l.t

abbrev pub decreases-guards : goal.decreases-guards
decreases-guards l = length l.rest
