use Rattle.std.proofs.Common.{◌≡◌, ◌++◌, map, drop}
use Rattle.built_in_table.specs.Rows.{member_facts}
use Rattle.class_code.specs.Declarations.{declared_by, declared_from}
use Rattle.class_code.proofs.declared.Numbered.declared_built_in.Given as goal

abbrev pub invariant-loop-place : goal.invariant-loop-place
invariant-loop-place l =
    l.declared.items ++ declared_from l.self l.class l.place (map member_facts (drop l.place l.members))
    ≡ declared_by l.self l.class
