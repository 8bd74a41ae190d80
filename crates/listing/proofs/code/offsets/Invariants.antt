use Rattle.std.proofs.Common.{◌≡◌, ◌++◌, length}
use Rattle.std.specs.Prelude.{Ok}
use Rattle.parsing.specs.Results.{◌>>=◌}
use Rattle.listing.specs.Code.{offsets}
use Rattle.listing.proofs.code.offsets.Given as goal

abbrev pub invariant-labels : goal.invariant-labels
invariant-labels l =
    (offsets l.marks.marks.items l.marks.size l.pc l.rest >>= λ found. Ok (l.out.items ++ found))
    ≡ offsets l.marks.marks.items l.marks.size l.pc l.labels

abbrev pub decreases-labels : goal.decreases-labels
decreases-labels l = length l.rest
