use Rattle.std.proofs.Common.{map}
use Rattle.directories.specs.Read.{entry_of}
use Rattle.set_directory.proofs.Steps.{shape_pushed}
use Rattle.set_directory.proofs.classes.push_shapes.Goals as goal

pub loop-name-preserved : goal.loop-name-preserved
loop-name-preserved c =
    shape_pushed c.args.set.now c.as_slice-name-items.result.now c.name-item.result c.as_slice.result.now c.loop-name.name-index
    (map entry_of c.args.entries.now.items) (map entry_of c.loop-name.entries.items) (map entry_of c.push_shape.new.entries.items)
    c.loop-name-test.true c.name-item.is c.as_slice.ensures.same c.loop-name.invariant c.in_ok-push_shape.ensures
