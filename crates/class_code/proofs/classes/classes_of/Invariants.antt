use Rattle.std.proofs.Common.{◌≡◌, map}
use Rattle.std.specs.List.{range_with_len}
use Rattle.class_code.specs.Classes.{class_of}
use Rattle.class_code.proofs.classes.classes_of.Given as goal

abbrev pub invariant-loop-class : goal.invariant-loop-class
invariant-loop-class l = l.classes.items ≡ map (class_of l.set) (range_with_len 0 l.class)
