use Rattle.std.proofs.Common.{take}
use Rattle.std.specs.List.{All}
use Rattle.class_file.specs.Classes.{HasAtMost}
use Rattle.workload.proofs.making.are_small.Given as goal

abbrev pub invariant-loop-class : goal.invariant-loop-class
invariant-loop-class l = All (HasAtMost 1048576) (take l.class-index l.classes)
