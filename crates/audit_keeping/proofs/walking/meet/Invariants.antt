use Rattle.std.proofs.Common.{◌≡◌, length}
use Rattle.std.specs.Prelude.{All}
use Rattle.graph_model.specs.Heaps.{IsBelow}
use Rattle.audit_keeping.specs.Walking.{marks_met, queue_met}
use Rattle.audit_keeping.proofs.walking.meet.Given as goal

abbrev pub invariant-values : goal.invariant-values
invariant-values l =
    (marks_met l.rest l.marks ≡ marks_met l.values l.fn.marks)
    × (queue_met l.rest l.marks l.queue.items ≡ queue_met l.values l.fn.marks l.fn.queue.items)
    × (length l.marks ≡ length l.fn.marks)
    × All (IsBelow (length l.marks)) l.rest

abbrev pub decreases-values : goal.decreases-values
decreases-values l = length l.rest
