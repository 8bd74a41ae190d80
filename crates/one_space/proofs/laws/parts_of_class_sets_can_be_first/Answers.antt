use Rattle.one_space.proofs.PartsGiven.{can_be_first}
use Rattle.one_space.proofs.laws.parts_of_class_sets_can_be_first.Goals as goal

pub returns : goal.returns
returns c = can_be_first
