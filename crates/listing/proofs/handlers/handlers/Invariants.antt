use Rattle.std.proofs.Common.{◌≡◌, ◌++◌, length}
use Rattle.std.specs.Prelude.{Ok}
use Rattle.parsing.specs.Results.{◌>>=◌}
use Rattle.listing.specs.Members.{handlers_from}
use Rattle.listing.proofs.handlers.handlers.Given as goal

abbrev pub invariant-lines : goal.invariant-lines
invariant-lines l =
    (handlers_from l.marks.marks.items l.marks.size l.number l.count l.rest l.entries >>= λ found. Ok
    (found.0, l.bytes.items ++ found.1, found.2))
    ≡ handlers_from l.marks.marks.items l.marks.size l.fn.number 0 l.lines l.initial.entries

abbrev pub decreases-lines : goal.decreases-lines
decreases-lines l = length l.rest
