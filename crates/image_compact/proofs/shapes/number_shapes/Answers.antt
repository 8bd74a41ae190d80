use Rattle.std.proofs.Common.{List, ℕ, ◌++◌, ◌∷◌, [], take, sym, subst}
use Rattle.dense_image.specs.Written.{with_shape, with_shapes}
use Rattle.image_compact.specs.Planning.{AreNumbersIn}
use Rattle.image_compact.proofs.Plans.{next_shapes, numbers_more, no_numbers}
use Rattle.image_compact.proofs.shapes.number_shapes.Goals as goal

pub loop-node-preserved : goal.loop-node-preserved
loop-node-preserved c =
    let nodes = c.args.nodes.now in
    let i = c.loop-node.node-index in
    let node = c.node-item.result in
    let before = with_shapes [] (take i nodes) in
    let next = next_shapes [] nodes i node c.loop-node-test.true c.node-item.is in
    record {
      lists = rw next (rw c.shape.ensures.same at (c.in_ok-number.ensures.lists before c.loop-node.invariant.lists));
      numbers = rw (next, c.in_ok-push.ensures.items) (numbers_more before nodes c.loop-node.numbers.items i node c.in_ok-number.number
          c.loop-node-test.true c.node-item.is c.loop-node.invariant.numbers
          (rw c.shape.ensures.same at (c.in_ok-number.ensures.number before c.loop-node.invariant.lists)));
    }
