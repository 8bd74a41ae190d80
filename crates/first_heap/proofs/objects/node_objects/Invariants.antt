use Rattle.std.proofs.Common.{◌≡◌, map, take}
use Rattle.graph_model.specs.declared.types.Graph.{Graph}
use Rattle.class_set.specs.Facts.{facts_of}
use Rattle.plain_model.specs.First.{node_object}
use Rattle.first_heap.proofs.objects.node_objects.Given as goal

abbrev pub invariant-loop-node : goal.invariant-loop-node
invariant-loop-node l = (opening : Graph)
    → l.objects.items ≡ map (node_object (facts_of l.set) opening) (take l.node-index l.nodes)
