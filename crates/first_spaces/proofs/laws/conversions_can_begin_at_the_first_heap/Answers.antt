use Rattle.first_spaces.proofs.Agreeing.{scenes_agree}
use Rattle.first_spaces.proofs.laws.conversions_can_begin_at_the_first_heap.Goals as goal

pub returns : goal.returns
returns c = scenes_agree c.places_go_on.ensures.start
