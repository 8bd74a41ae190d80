use Rattle.std.proofs.Common.{◌≡◌, map}
use Rattle.plain_model.specs.First.{numbers_to}
use Rattle.class_set.specs.Tables.{reached_above}
use Rattle.class_set.proofs.hierarchy.types_above.Given as goal

abbrev pub invariant-loop-class : goal.invariant-loop-class
invariant-loop-class l = l.above.items ≡ map (reached_above l.interfaces l.supers) (numbers_to l.class)
