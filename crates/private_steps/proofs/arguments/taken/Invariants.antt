use Rattle.std.proofs.Common.{◌≡◌, ◌+◌, ◌≤◌, List, [], length, drop}
use Rattle.frames.specs.declared.given.Given.{Given}
use Rattle.frames.specs.Calls.{arguments_on, cells_taken}
use Rattle.private_steps.proofs.arguments.taken.Given as goal

-- the arguments so far are there
abbrev pub invariant-loop-sort : goal.invariant-loop-sort
invariant-loop-sort g l =
    ((later : List (Given _)) × (arguments_on l.parameters l.cells.own.stack [] ≡
    arguments_on (drop l.sort-index l.parameters) (drop l.above l.cells.own.stack) later)) ×
    (cells_taken l.parameters ≡ l.above + cells_taken (drop l.sort-index l.parameters)) ×
    (l.above ≤ length l.cells.own.stack)
