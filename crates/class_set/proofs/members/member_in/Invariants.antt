use Rattle.std.proofs.Common.{◌≡◌, map, drop}
use Rattle.built_in_table.specs.Rows.{member_facts}
use Rattle.class_set.specs.Lookups.{member_from}
use Rattle.class_set.proofs.members.member_in.Given as goal

abbrev pub invariant-loop-place : goal.invariant-loop-place
invariant-loop-place l =
    member_from 0 (map member_facts l.members) l.name l.descriptor
    ≡ member_from l.place (map member_facts (drop l.place l.members)) l.name l.descriptor
