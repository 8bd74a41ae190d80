use Rattle.std.proofs.Common.{◌≡◌, ◌++◌, map, drop, true}
use Rattle.std.specs.List.{list_all}
use Rattle.built_in_table.specs.Rows.{member_facts}
use Rattle.class_code.specs.BuiltIns.{is_spelled}
use Rattle.class_code.specs.Codes.{built_in_from}
use Rattle.class_code.proofs.native_methods.add_built_in.Given as goal

abbrev pub invariant-loop-number : goal.invariant-loop-number
invariant-loop-number g l = record {
  methods : l.methods.items ++ built_in_from (g.N.NativeMethods.native_at l.natives) l.class l.place l.number (map member_facts (drop l.number l.members))
      ≡ l.fn.methods.items ++ built_in_from (g.N.NativeMethods.native_at l.natives) l.class l.place 0 (map member_facts l.members);
  spelled : list_all is_spelled (map member_facts (drop l.number l.members)) ≡ true;
}
