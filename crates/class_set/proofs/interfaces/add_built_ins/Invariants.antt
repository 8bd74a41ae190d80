use Rattle.std.proofs.Common.{◌≡◌, ◌++◌, map, take}
use Rattle.built_in_table.specs.Rows.{row_interfaces}
use Rattle.class_set.proofs.interfaces.add_built_ins.Given as goal

abbrev pub invariant-loop-class : goal.invariant-loop-class
invariant-loop-class l = l.edges.items ≡ l.fn.edges.items ++ map (row_interfaces l.first) (take l.class-index l.class-items)
