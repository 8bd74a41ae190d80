use Rattle.std.proofs.Common.{◌≡◌, ◌≤◌, ◌+◌, map, drop, length}
use Rattle.text_table.specs.Texts.{with_texts}
use Rattle.built_in_table.specs.Rows.{row_name}
use Rattle.class_set.proofs.names.add_built_ins.Given as goal

abbrev pub invariant-loop-class : goal.invariant-loop-class
invariant-loop-class l = record {
  names : with_texts l.names (map row_name (drop l.class-index l.class-items)) ≡ with_texts l.fn.names (map row_name l.class-items);
  few : length l.names ≤ 4096 + l.class-index;
}
