use Rattle.std.proofs.Common.{◌≡◌, map}
use Rattle.graph_walks.specs.Order.{visits}
use Rattle.plain_model.specs.First.{numbers_to}
use Rattle.class_set.proofs.hierarchy.field_orders.Given as goal

abbrev pub invariant-loop-class : goal.invariant-loop-class
invariant-loop-class l = l.orders.items ≡ map (visits l.edges) (numbers_to l.class)
