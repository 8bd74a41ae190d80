use Rattle.std.proofs.Common.{◌≡◌, ◌++◌, length}
use Rattle.std.specs.Prelude.{Ok}
use Rattle.parsing.specs.Results.{◌>>=◌}
use Rattle.listing_lines.specs.Instructions.{pairs}
use Rattle.listing_lines.proofs.instructions.pairs.Given as goal

abbrev pub invariant-pairs : goal.invariant-pairs
invariant-pairs l = (pairs l.rest >>= λ found. Ok (l.pairs.items ++ found)) ≡ pairs l.words

abbrev pub decreases-pairs : goal.decreases-pairs
decreases-pairs l = length l.rest
