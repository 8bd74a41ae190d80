use Rattle.std.proofs.Common.{◌≡◌, length}
use Rattle.audit_keeping.specs.Keeping.{mark_test, marked_with}
use Rattle.audit_keeping.proofs.keeping.mark_each.Given as goal

abbrev pub invariant-named : goal.invariant-named
invariant-named l =
    (mark_test l.marks l.asked l.rest ≡ mark_test l.fn.marks l.asked l.named)
    × (marked_with l.marks l.rest ≡ marked_with l.fn.marks l.named)
    × (length l.marks ≡ length l.fn.marks)

abbrev pub decreases-named : goal.decreases-named
decreases-named l = length l.rest
