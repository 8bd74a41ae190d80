use Rattle.std.proofs.Common.{◌≡◌, ◌++◌, map, take}
use Rattle.built_in_table.specs.Rows.{row_shape}
use Rattle.class_set.proofs.layouts.add_built_in_shapes.Given as goal

abbrev pub invariant-loop-class : goal.invariant-loop-class
invariant-loop-class l = l.shapes.items ≡ l.fn.shapes.items ++ map row_shape (take l.class-index l.class-items)
