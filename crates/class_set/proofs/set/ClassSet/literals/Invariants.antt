use Rattle.std.proofs.Common.{◌≡◌, ◌++◌, map, drop}
use Rattle.class_set.specs.Literals.{chars_of}
use Rattle.class_set.proofs.set.ClassSet.literals.Given as goal

abbrev pub invariant-loop-text : goal.invariant-loop-text
invariant-loop-text l = l.literals.items ++ map chars_of (drop l.text-index l.text-items) ≡ map chars_of l.text-items
