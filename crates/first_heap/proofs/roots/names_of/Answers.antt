use Rattle.first_heap.proofs.Named.{name_added}
use Rattle.first_heap.proofs.roots.names_of.Goals as goal

pub loop-root-preserved : goal.loop-root-preserved
loop-root-preserved c =
    name_added c.args.roots.now c.root-item.result c.loop-root.root-index c.as_slice.result.now
    c.loop-root.names c.add_name.new.names
    c.requires.differ c.loop-root-test.true c.root-item.is c.as_slice.ensures.same c.loop-root.invariant
    c.in_ok-add_name.ensures
