use Rattle.history_file.proofs.RowsHold.{printed, refused}
use Rattle.history_file.proofs.laws.small_files_have_their_answers.Goals as goal

pub returns-clause-print : goal.returns-clause-print
returns-clause-print c = printed

pub returns-clause-refused : goal.returns-clause-refused
returns-clause-refused c = refused
