use Rattle.std.proofs.Common.{◌≡◌, [], length}
use Rattle.listing.specs.Roots.{roots_from}
use Rattle.listing.proofs.roots.roots.Given as goal

abbrev pub invariant-lines : goal.invariant-lines
invariant-lines l = roots_from l.number l.roots.items l.rest ≡ roots_from 1 [] l.lines

abbrev pub decreases-lines : goal.decreases-lines
decreases-lines l = length l.rest
