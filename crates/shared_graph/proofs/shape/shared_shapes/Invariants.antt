-- The shapes so far are copied.
use Rattle.std.proofs.Common.{◌≡◌, take}
use Rattle.shared_graph.proofs.shape.shared_shapes.Given as goal

abbrev pub invariant-loop-shape : goal.invariant-loop-shape
invariant-loop-shape l = l.shared.items ≡ take l.shape-index l.shapes
