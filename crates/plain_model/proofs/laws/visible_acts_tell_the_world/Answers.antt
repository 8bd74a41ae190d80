use Rattle.plain_model.proofs.Durable.{world_by_visible, persistence_leaves_the_world}
use Rattle.plain_model.proofs.laws.visible_acts_tell_the_world.Goals as goal

pub returns-clause-world : goal.returns-clause-world
returns-clause-world c = world_by_visible

pub returns-clause-persistence : goal.returns-clause-persistence
returns-clause-persistence c = persistence_leaves_the_world
