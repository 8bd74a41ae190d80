use Rattle.std.proofs.Common.{◌≡◌, map, drop}
use Rattle.class_set.specs.Members.{method_facts}
use Rattle.class_set.specs.Lookups.{member_from}
use Rattle.class_set.proofs.members.method_in_file.Given as goal

abbrev pub invariant-loop-place : goal.invariant-loop-place
invariant-loop-place l =
    member_from 0 (map (method_facts l.file.pool) l.file.methods) l.name l.descriptor
    ≡ member_from l.place (map (method_facts l.file.pool) (drop l.place l.file.methods)) l.name l.descriptor
