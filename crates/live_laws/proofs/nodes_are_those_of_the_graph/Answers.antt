use Rattle.std.proofs.Common.{sym}
use Rattle.std.proofs.lemmas.List.{length-map}
use Rattle.graph_model.specs.Canon.{canon_of, found_from, node_of}
use Rattle.graph_model.specs.Heaps.{root_values}
use Rattle.live_laws.proofs.nodes_are_those_of_the_graph.Goals as goal

pub returns : goal.returns
unfolding canon_of
returns c seen =
    let found = found_from seen.heap (root_values seen.heap) in sym (length-map found (node_of seen.heap found))
