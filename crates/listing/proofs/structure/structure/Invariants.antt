use Rattle.std.proofs.Common.{◌≡◌, length}
use Rattle.listing.specs.Structure.{structure_from, structure}
use Rattle.listing.proofs.structure.structure.Given as goal

abbrev pub invariant-lines : goal.invariant-lines
invariant-lines l = structure_from l.number l.place l.rest ≡ structure l.lines

abbrev pub decreases-lines : goal.decreases-lines
decreases-lines l = length l.rest
