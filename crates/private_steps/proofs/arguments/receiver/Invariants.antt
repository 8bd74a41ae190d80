use Rattle.std.proofs.Common.{◌≡◌, ◌+◌, ◌≤◌, length, drop}
use Rattle.frames.specs.Calls.{cells_taken}
use Rattle.private_steps.proofs.arguments.receiver.Given as goal

-- so many cells are counted
abbrev pub invariant-loop-sort : goal.invariant-loop-sort
invariant-loop-sort g l =
    (cells_taken l.parameters ≡ l.above + cells_taken (drop l.sort-index l.parameters)) ×
    (l.above ≤ length l.cells.own.stack + 1)
