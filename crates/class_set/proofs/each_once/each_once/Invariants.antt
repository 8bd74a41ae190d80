use Rattle.std.proofs.Common.{◌≡◌, map, take}
use Rattle.graph_walks.specs.Order.{firsts}
use Rattle.class_set.proofs.each_once.each_once.Given as goal

abbrev pub invariant-loop-next : goal.invariant-loop-next
invariant-loop-next l = l.once.items ≡ map firsts (take l.next-index l.edges)
