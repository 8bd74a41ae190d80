use Rattle.std.proofs.Common.{◌≡◌, ◌++◌, map, take}
use Rattle.built_in_table.specs.Rows.{row_super}
use Rattle.class_set.proofs.supers.add_built_in_supers.Given as goal

abbrev pub invariant-loop-class : goal.invariant-loop-class
invariant-loop-class l = l.supers.items ≡ l.fn.supers.items ++ map (row_super l.first) (take l.class-index l.class-items)
