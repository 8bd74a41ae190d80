use Rattle.std.proofs.Common.{◌≡◌, ◌++◌, map, drop, true}
use Rattle.std.specs.List.{list_all}
use Rattle.built_in_table.specs.Rows.{row_members}
use Rattle.class_code.specs.BuiltIns.{are_spelled}
use Rattle.class_code.specs.Codes.{built_ins_from}
use Rattle.class_code.proofs.native_methods.add_built_ins.Given as goal

abbrev pub invariant-loop-place : goal.invariant-loop-place
invariant-loop-place g l = record {
  methods : l.methods.items ++ built_ins_from (g.N.NativeMethods.native_at l.natives) l.first l.place (map row_members (drop l.place l.rows))
      ≡ l.fn.methods.items ++ built_ins_from (g.N.NativeMethods.native_at l.natives) l.first 0 (map row_members l.rows);
  spelled : list_all are_spelled (map row_members (drop l.place l.rows)) ≡ true;
}
