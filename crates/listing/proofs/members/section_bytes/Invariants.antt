use Rattle.std.proofs.Common.{◌≡◌, ◌++◌, length}
use Rattle.std.specs.Prelude.{Ok}
use Rattle.parsing.specs.Results.{◌>>=◌}
use Rattle.listing.specs.Members.{section_from}
use Rattle.listing.proofs.members.section_bytes.Given as goal

abbrev pub invariant-lines : goal.invariant-lines
invariant-lines l =
    (section_from l.section l.number l.count l.rest l.entries >>= λ found. Ok
    (found.0, l.bytes.items ++ found.1, found.2))
    ≡ section_from l.section l.fn.number 0 l.lines l.initial.entries

abbrev pub decreases-lines : goal.decreases-lines
decreases-lines l = length l.rest
