use Rattle.line_memory.proofs.StopSets.{stay_inside, one_more, stores_alone}
use Rattle.line_memory.proofs.laws.stop_sets_gain_what_is_stored.Goals as goal

pub returns : goal.returns
returns c = record { stay_inside = stay_inside; one_more = one_more; stores_alone = stores_alone }
