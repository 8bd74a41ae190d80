use Rattle.std.proofs.Common.{ap, sym}
use Rattle.graph_model.specs.Heaps.{root_values}
use Rattle.graph_model.specs.Canon.{canon_of, graph_by}
use Rattle.graph_model.proofs.FoundAfter.{found_from-numbering, found_from-only, root_values-below}
use Rattle.graph_model.proofs.laws.canon_numbers_breadth_first.Goals as goal

pub returns-clause-numbered : goal.returns-clause-numbered
returns-clause-numbered c heap sound = found_from-numbering heap (root_values heap) sound (root_values-below heap sound)

pub returns-clause-graph : goal.returns-clause-graph
unfolding canon_of
returns-clause-graph c heap numbers sound numbering =
    ap (graph_by heap) (sym (found_from-only heap (root_values heap) sound (root_values-below heap sound) numbers numbering))
