use Rattle.std.proofs.Common.{◌≡◌}
use Rattle.class_set.specs.Tables.{alone}
use Rattle.class_set.proofs.each_once.no_edges.Given as goal

abbrev pub invariant-loop : goal.invariant-loop
invariant-loop l = l.edges.items ≡ alone l.counter
