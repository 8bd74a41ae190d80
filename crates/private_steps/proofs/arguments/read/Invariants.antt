use Rattle.std.proofs.Common.{◌≡◌, ◌≤◌, ◌-◌, length, vec_capacity}
use Rattle.private_steps.proofs.Parameters.{IsReading}
use Rattle.private_steps.proofs.arguments.read.Given as goal

-- the arguments so far are read
abbrev pub invariant-loop-sort : goal.invariant-loop-sort
invariant-loop-sort g l =
    IsReading l.parameters l.cells.own l.sort-index l.above l.left l.items.items ×
    (length l.items.items ≤ 2 - l.left) × (l.above ≤ length l.cells.own.stack) ×
    (vec_capacity l.items ≡ vec_capacity l.fn.items)
