use Rattle.class_set.proofs.Circles.{no_class_above_itself}
use Rattle.class_set.proofs.laws.no_class_is_above_itself.Goals as goal

pub returns : goal.returns
returns c = λ files links. no_class_above_itself files links.no_circle
