use Rattle.class_code.proofs.Dispatching.{is_told}
use Rattle.class_code.proofs.laws.classes_are_those_of_the_set.Goals as goal

pub returns : goal.returns
returns g c = λ native_at set n h. is_told native_at set n h
