use Rattle.std.proofs.Common.{◌≡◌, length}
use Rattle.listing.specs.Classes.{super_from}
use Rattle.listing.proofs.classes.super_from.Given as goal

abbrev pub invariant-lines : goal.invariant-lines
invariant-lines l = super_from l.number l.rest ≡ super_from l.fn.number l.lines

abbrev pub decreases-lines : goal.decreases-lines
decreases-lines l = length l.rest
