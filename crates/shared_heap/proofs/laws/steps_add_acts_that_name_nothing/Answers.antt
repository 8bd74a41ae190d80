use Rattle.shared_heap.proofs.Requesting.{acts_added}
use Rattle.shared_heap.proofs.laws.steps_add_acts_that_name_nothing.Goals as goal

pub returns : goal.returns
returns c = record { acts = acts_added }
