use Rattle.std.proofs.Common.{◌≡◌, ◌++◌, map, drop}
use Rattle.class_set.specs.Members.{method_facts}
use Rattle.class_code.specs.Declarations.{declared_by, declared_from}
use Rattle.class_code.proofs.declared.Numbered.declared_in_file.Given as goal

abbrev pub invariant-loop-place : goal.invariant-loop-place
invariant-loop-place l =
    l.declared.items ++ declared_from l.self l.class l.place (map (method_facts l.file.pool) (drop l.place l.file.methods))
    ≡ declared_by l.self l.class
