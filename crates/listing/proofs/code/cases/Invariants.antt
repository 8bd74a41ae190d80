use Rattle.std.proofs.Common.{◌≡◌, ◌++◌, length}
use Rattle.std.specs.Prelude.{Ok}
use Rattle.parsing.specs.Results.{◌>>=◌}
use Rattle.listing.specs.Code.{cases}
use Rattle.listing.proofs.code.cases.Given as goal

abbrev pub invariant-pairs : goal.invariant-pairs
invariant-pairs l = (cases l.marks.marks.items l.marks.size l.pc l.rest >>= λ found. Ok
    (l.out.items ++ found)) ≡ cases l.marks.marks.items l.marks.size l.pc l.pairs

abbrev pub decreases-pairs : goal.decreases-pairs
decreases-pairs l = length l.rest
