-- The nodes so far, and those that are left, are all.
use Rattle.std.proofs.Common.{◌≡◌, ◌++◌}
use Rattle.shared_graph.proofs.graph.into_nodes.Given as goal

abbrev pub invariant-loop-node : goal.invariant-loop-node
invariant-loop-node l = l.nodes.items ++ l.node-iterator.rest.items ≡ l.fn.shared
