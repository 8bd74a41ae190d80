use Rattle.std.proofs.Common.{refl}
use Rattle.graph_model.specs.Canon.{found_from, canon_of}
use Rattle.graph_model.proofs.laws.canon_row.Goals as goal

pub returns : goal.returns
unfolding found_from canon_of
returns c = refl
