-- The nodes so far are numbered, and their shapes are listed.
use Rattle.std.proofs.Common.{take, []}
use Rattle.dense_image.specs.Written.{with_shapes}
use Rattle.image_compact.specs.Planning.{Lists, AreNumbersIn}
use Rattle.image_compact.proofs.shapes.number_shapes.Given as goal

abbrev pub invariant-loop-node : goal.invariant-loop-node
invariant-loop-node l = record {
  lists : Lists (with_shapes [] (take l.node-index l.nodes)) l.shapes;
  numbers : AreNumbersIn (with_shapes [] (take l.node-index l.nodes)) (take l.node-index l.nodes) l.numbers.items;
}
