use Rattle.std.proofs.Common.{◌≡◌, length}
use Rattle.audit_keeping.specs.Keeping.{refer_durably_in}
use Rattle.audit_keeping.proofs.keeping.refer_durably.Given as goal

abbrev pub invariant-named : goal.invariant-named
invariant-named l = refer_durably_in l.heap l.marks l.rest ≡ refer_durably_in l.heap l.marks l.named

abbrev pub decreases-named : goal.decreases-named
decreases-named l = length l.rest
