use Rattle.std.proofs.Common.{◌≡◌, ◌++◌, drop, map}
use Rattle.built_in_table.specs.Rows.{member_facts}
use Rattle.class_set.specs.Members.{layout_of_fields}
use Rattle.class_set.proofs.layouts.push_members.Given as goal

abbrev pub invariant-loop-member : goal.invariant-loop-member
invariant-loop-member l =
    l.fields ++ layout_of_fields (map member_facts (drop l.member-index l.members))
    ≡ l.fn.fields ++ layout_of_fields (map member_facts l.members)
