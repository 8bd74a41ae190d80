use Rattle.std.proofs.Common.{◌≡◌, ◌++◌, replicate, vec_capacity}
use Rattle.frame_cells.proofs.stack.extend.Given as goal

abbrev pub invariant-loop : goal.invariant-loop
invariant-loop g l = (l.items.items ≡ l.fn.items.items ++ replicate l.counter l.fn.fill)
    × (vec_capacity l.items ≡ vec_capacity l.fn.items)
