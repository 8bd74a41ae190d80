use Rattle.history_file.proofs.Whole.{read_is_written}
use Rattle.history_file.proofs.laws.what_is_read_is_written.Goals as goal

pub returns-clause-bytes : goal.returns-clause-bytes
returns-clause-bytes c = λ bytes acts keep fits e. (read_is_written bytes acts keep fits e).1

pub returns-clause-told : goal.returns-clause-told
returns-clause-told c = λ bytes acts keep fits e. (read_is_written bytes acts keep fits e).0
