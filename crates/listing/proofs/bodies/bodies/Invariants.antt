use Rattle.std.proofs.Common.{◌≡◌, length}
use Rattle.listing.specs.Bodies.{bodies_from}
use Rattle.listing.proofs.bodies.bodies.Given as goal

abbrev pub invariant-lines : goal.invariant-lines
invariant-lines l = bodies_from l.number l.rest ≡ bodies_from 1 l.lines

abbrev pub decreases-lines : goal.decreases-lines
decreases-lines l = length l.rest
