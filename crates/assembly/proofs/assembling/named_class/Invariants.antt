use Rattle.std.proofs.Common.{◌≡◌, drop}
use Rattle.assembly.specs.Assembling.{named_class}
use Rattle.assembly.proofs.assembling.named_class.Given as goal

abbrev pub invariant-loop-class : goal.invariant-loop-class
invariant-loop-class l = named_class l.name l.classes ≡ named_class l.name (drop l.class-index l.classes)
