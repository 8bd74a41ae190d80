use Rattle.two_spaces.proofs.Moved.{same_world, shows, whole}
use Rattle.two_spaces.proofs.laws.moves_show_the_same_world.Goals as goal

pub returns-clause-whole : goal.returns-clause-whole
returns-clause-whole c = whole

pub returns-clause-shows : goal.returns-clause-shows
returns-clause-shows c = shows

pub returns-clause-world : goal.returns-clause-world
returns-clause-world c = same_world
