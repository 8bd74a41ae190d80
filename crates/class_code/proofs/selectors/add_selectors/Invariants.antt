use Rattle.std.proofs.Common.{◌≡◌, ◌++◌}
use Rattle.class_code.specs.Entries.{rows_in, selector_rows}
use Rattle.class_code.proofs.selectors.add_selectors.Given as goal

abbrev pub invariant-loop-index : goal.invariant-loop-index
invariant-loop-index l = l.selectors.items ≡ l.fn.selectors.items ++ rows_in (selector_rows l.set) l.class l.pool l.index
