use Rattle.std.proofs.Common.{◌≡◌, ◌≤◌, length}
use Rattle.listing.specs.Labels.{past}
use Rattle.listing.specs.Bodies.{body_from}
use Rattle.listing.proofs.bodies.body.Given as goal

abbrev pub invariant-lines : goal.invariant-lines
invariant-lines l =
    (l.pc ≤ past)
    × (body_from l.marks.marks.items l.marks.size l.number l.pc l.passed l.rest
    ≡ body_from l.marks.marks.items l.marks.size l.fn.number 0 0 l.lines)

abbrev pub decreases-lines : goal.decreases-lines
decreases-lines l = length l.rest
