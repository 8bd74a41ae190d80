use Rattle.std.proofs.Common.{sym}
use Rattle.class_file.proofs.Spelled.{class_spelled}
use Rattle.class_file.proofs.laws.what_is_read_is_written.Goals as goal

pub returns-clause-bytes : goal.returns-clause-bytes
returns-clause-bytes c = λ bytes class fits read. sym (class_spelled bytes class fits read).0

pub returns-clause-fits : goal.returns-clause-fits
returns-clause-fits c = λ bytes class fits read. (class_spelled bytes class fits read).1
