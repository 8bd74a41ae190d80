use Rattle.std.proofs.Common.{◌≡◌, ◌++◌, ◌≤◌, length}
use Rattle.std.specs.Prelude.{Ok}
use Rattle.parsing.specs.Results.{◌>>=◌}
use Rattle.listing.specs.Labels.{past}
use Rattle.listing.specs.Members.{code_from}
use Rattle.listing.proofs.bodies.code.Given as goal

abbrev pub invariant-lines : goal.invariant-lines
invariant-lines l =
    (l.pc ≤ past)
    × ((code_from l.marks.marks.items l.marks.size l.number l.pc l.passed l.rest l.entries >>= λ found. Ok
    (l.code.items ++ found.0, found.1))
    ≡ code_from l.marks.marks.items l.marks.size l.fn.number 0 0 l.lines l.initial.entries)

abbrev pub decreases-lines : goal.decreases-lines
decreases-lines l = length l.rest
