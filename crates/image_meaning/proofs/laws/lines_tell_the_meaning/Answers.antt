use Rattle.image_meaning.proofs.Within.{meaning-within}
use Rattle.image_meaning.proofs.laws.lines_tell_the_meaning.Goals as goal

pub returns : goal.returns
returns _ size c d enough same = meaning-within size c d enough same
