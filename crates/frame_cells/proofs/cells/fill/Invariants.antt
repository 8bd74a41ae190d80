use Rattle.std.proofs.Common.{◌≡◌, ◌++◌, replicate}
use Rattle.frame_cells.specs.declared.cell.Cell.TheVariants.{Empty}
use Rattle.frame_cells.proofs.cells.fill.Given as goal

abbrev pub invariant-loop : goal.invariant-loop
invariant-loop g l = (l.items.entries ≡ l.fn.items.entries ++ replicate l.counter Empty) × (l.items.ready ≡ l.fn.items.ready)
