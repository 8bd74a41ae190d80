use Rattle.plain_model.proofs.Printing.{prints_7}
use Rattle.plain_model.proofs.run_rows.a_program_prints_7.Goals as goal

pub returns : goal.returns
returns c = prints_7
