use Rattle.std.proofs.Common.{◌≡◌, map, length}
use Rattle.run_history.specs.Knowing.{guard_of}
use Rattle.audit_keeping.specs.Keeping.{guard_in}
use Rattle.audit_keeping.proofs.keeping.guard_of.Given as goal

abbrev pub invariant-guards : goal.invariant-guards
invariant-guards l = guard_of (map guard_in l.rest) l.place ≡ guard_of (map guard_in l.guards) l.place

abbrev pub decreases-guards : goal.decreases-guards
decreases-guards l = length l.rest
