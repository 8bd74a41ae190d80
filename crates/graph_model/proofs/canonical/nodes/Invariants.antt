use Rattle.std.proofs.Common.{◌≡◌, map, take}
use Rattle.graph_model.specs.Canon.{node_of}
use Rattle.graph_model.proofs.canonical.nodes.Given as goal

abbrev pub invariant-loop-object : goal.invariant-loop-object
invariant-loop-object l =
    l.nodes.items ≡ map (node_of l.heap l.numbering.numbers) (take l.object-index l.numbering.numbers)
