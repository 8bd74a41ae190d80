use Rattle.std.proofs.Common.{refl}
use Rattle.graph_model.specs.Canon.{found_from}
use Rattle.graph_model.proofs.laws.breadth_first_row.Goals as goal

pub returns : goal.returns
unfolding found_from
returns c = refl
