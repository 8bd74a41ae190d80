use Rattle.natives.proofs.Outputs.{texts_are_printed}
use Rattle.natives.proofs.laws.texts_are_printed_in_utf8.Goals as goal

pub returns : goal.returns
returns g c = λ x. texts_are_printed x
