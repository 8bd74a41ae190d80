use Rattle.history_file.proofs.Whole.{written_is_read}
use Rattle.history_file.proofs.laws.what_is_written_is_read.Goals as goal

pub returns : goal.returns
returns c = written_is_read
