use Rattle.image_meaning.proofs.Standings.{canon-standing}
use Rattle.image_meaning.proofs.laws.standing_graphs_are_canonical.Goals as goal

pub returns : goal.returns
returns c size words graph heap stand holds = canon-standing size words graph heap stand holds
