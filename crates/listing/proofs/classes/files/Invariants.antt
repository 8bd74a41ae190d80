use Rattle.std.proofs.Common.{◌≡◌, ◌++◌, length}
use Rattle.std.specs.Prelude.{Ok}
use Rattle.parsing.specs.Results.{◌>>=◌}
use Rattle.listing.specs.Classes.{files_from}
use Rattle.listing.proofs.classes.files.Given as goal

abbrev pub invariant-lines : goal.invariant-lines
invariant-lines l = (files_from l.number l.rest >>= λ found. Ok (l.files.items ++ found))
    ≡ files_from 1 l.lines

abbrev pub decreases-lines : goal.decreases-lines
decreases-lines l = length l.rest
