use Rattle.std.proofs.Common.{◌≡◌, map}
use Rattle.std.specs.List.{range_with_len}
use Rattle.class_code.specs.Declarations.{declared_by}
use Rattle.class_code.proofs.declared.Numbered.all_declared.Given as goal

abbrev pub invariant-loop-class : goal.invariant-loop-class
invariant-loop-class l = l.declared.items ≡ map (declared_by l.self) (range_with_len 0 l.class)
