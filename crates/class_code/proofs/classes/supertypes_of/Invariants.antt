use Rattle.std.proofs.Common.{◌≡◌}
use Rattle.std.specs.Prelude.{filter}
use Rattle.std.specs.List.{range_with_len}
use Rattle.plain_model.specs.Facts.{is_sub}
use Rattle.class_set.specs.Facts.{facts_of}
use Rattle.class_code.proofs.classes.supertypes_of.Given as goal

abbrev pub invariant-loop-above : goal.invariant-loop-above
invariant-loop-above l = l.supertypes.items ≡ filter (is_sub (facts_of l.set) l.class) (range_with_len 0 l.above)
