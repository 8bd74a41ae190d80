use Rattle.class_set.proofs.ShortLiterals.{literals_short}
use Rattle.class_set.proofs.beginnings.literals_are_short.Goals as goal

pub returns : goal.returns
returns c = λ set linked. literals_short set.files linked.readable
