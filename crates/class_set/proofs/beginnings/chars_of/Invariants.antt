use Rattle.std.proofs.Common.{◌≡◌, ◌++◌, length}
use Rattle.class_set.specs.Literals.{chars_of}
use Rattle.class_set.proofs.beginnings.chars_of.Given as goal

abbrev pub invariant-loop-rest : goal.invariant-loop-rest
invariant-loop-rest l = l.chars.items ++ chars_of l.rest ≡ chars_of l.text

abbrev pub decreases-loop-rest : goal.decreases-loop-rest
decreases-loop-rest l = length l.rest
