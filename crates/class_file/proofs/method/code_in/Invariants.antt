use Rattle.std.proofs.Common.{◌≡◌, drop}
use Rattle.class_file.specs.Members.{code_in}
use Rattle.class_file.proofs.method.code_in.Given as goal

abbrev pub invariant-loop-attribute : goal.invariant-loop-attribute
invariant-loop-attribute l = code_in l.attributes ≡ code_in (drop l.attribute-index l.attributes)
