use Rattle.graph_model.proofs.FoundAfter.{found_from-only}
use Rattle.graph_model.proofs.laws.one_numbering_only.Goals as goal

pub returns : goal.returns
returns c heap start numbers sound below numbering = found_from-only heap start sound below numbers numbering
