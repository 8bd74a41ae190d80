use Rattle.one_space.proofs.Agreeing.{first_agrees}
use Rattle.one_space.proofs.laws.steps_can_begin_at_the_first_heap.Goals as goal

pub returns : goal.returns
returns c = first_agrees
