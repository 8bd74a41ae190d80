use Rattle.line_memory.proofs.StopSets.{in_stop_set}
use Rattle.line_memory.proofs.laws.laws_of_stop_sets.Goals as goal

pub returns : goal.returns
returns c = record { in_stop_set = in_stop_set }
