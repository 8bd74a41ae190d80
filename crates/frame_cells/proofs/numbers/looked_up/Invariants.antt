use Rattle.std.proofs.Common.{◌≡◌, drop}
use Rattle.frame_cells.specs.Numbers.{looked_up}
use Rattle.frame_cells.proofs.numbers.looked_up.Given as goal

-- no pair so far has the key
abbrev pub invariant-loop-case : goal.invariant-loop-case
invariant-loop-case l =
    looked_up l.default l.cases l.key ≡ looked_up l.default (drop l.case-index l.cases) l.key
