use Rattle.printed_output.proofs.Printing.{outputs-are-told}
use Rattle.printed_output.proofs.laws.outputs_are_told.Goals as goal

pub returns : goal.returns
returns c = outputs-are-told
