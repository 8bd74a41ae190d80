use Rattle.std.proofs.Common.{◌≡◌, map, length}
use Rattle.run_history.specs.Knowing.{pending_of}
use Rattle.audit_rules.specs.Rules.{none_pending}
use Rattle.audit_keeping.specs.Keeping.{pending_in}
use Rattle.audit_keeping.proofs.keeping.none_pending.Given as goal

abbrev pub invariant-asked : goal.invariant-asked
invariant-asked l = none_pending (pending_of (map pending_in l.rest) l.t) ≡ none_pending (pending_of (map pending_in l.asked) l.t)

abbrev pub decreases-asked : goal.decreases-asked
decreases-asked l = length l.rest
