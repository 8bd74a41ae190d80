use Rattle.graph_model.proofs.FoundAfter.{found_from-numbering}
use Rattle.graph_model.proofs.laws.found_breadth_first.Goals as goal

pub returns : goal.returns
returns c heap start sound below = found_from-numbering heap start sound below
