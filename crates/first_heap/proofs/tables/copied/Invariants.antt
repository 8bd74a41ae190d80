use Rattle.std.proofs.Common.{◌≡◌, ◌++◌, drop}
use Rattle.first_heap.proofs.tables.copied.Given as goal

abbrev pub invariant-loop-shape : goal.invariant-loop-shape
invariant-loop-shape l = l.copies.items ++ drop l.shape-index l.shapes ≡ l.shapes
