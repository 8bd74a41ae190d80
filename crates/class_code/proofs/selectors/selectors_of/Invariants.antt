use Rattle.std.proofs.Common.{◌≡◌}
use Rattle.class_code.specs.Entries.{rows_before, selector_rows}
use Rattle.class_code.proofs.selectors.selectors_of.Given as goal

abbrev pub invariant-loop-class : goal.invariant-loop-class
invariant-loop-class l = l.selectors.items ≡ rows_before (selector_rows l.set) l.set.files l.class
