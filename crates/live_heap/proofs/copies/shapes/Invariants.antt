use Rattle.std.proofs.Common.{◌≡◌, ◌++◌, drop}
use Rattle.live_heap.proofs.copies.shapes.Given as goal

abbrev pub invariant-loop-shape : goal.invariant-loop-shape
invariant-loop-shape l = l.copies.items ++ drop l.shape-index l.shapes ≡ l.shapes
