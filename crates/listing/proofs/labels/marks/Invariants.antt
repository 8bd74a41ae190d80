use Rattle.std.proofs.Common.{◌≡◌, ◌++◌, ◌≤◌, length}
use Rattle.listing.specs.Labels.{past, marks_from}
use Rattle.listing.proofs.labels.marks.Given as goal

abbrev pub invariant-lines : goal.invariant-lines
invariant-lines l =
    (l.size ≤ past) × (l.marks.items ++ (marks_from l.size l.rest).0 ≡ (marks_from 0 l.lines).0)
    × ((marks_from l.size l.rest).1 ≡ (marks_from 0 l.lines).1)

abbrev pub decreases-lines : goal.decreases-lines
decreases-lines l = length l.rest
