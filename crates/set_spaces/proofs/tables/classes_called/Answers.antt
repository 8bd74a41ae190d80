use Rattle.set_spaces.proofs.Classes.{class_added}
use Rattle.set_spaces.proofs.tables.classes_called.Goals as goal

pub loop-shape-preserved : goal.loop-shape-preserved
loop-shape-preserved c =
    class_added c.args.set.now c.args.shapes.now c.shape-item.result c.loop-shape.shape-index
    c.class_called.result
    c.as_slice.result.now c.loop-shape.classes.items c.push.new.self.items c.loop-shape-test.true
    c.shape-item.is
    c.as_slice.ensures.same c.class_called.ensures c.loop-shape.invariant c.in_ok-push.ensures.items
