use Rattle.code_form.proofs.Rows.{whole_is_read, whole_is_written}
use Rattle.code_form.proofs.laws.a_whole_code_is_read.Goals as goal

pub returns-clause-read : goal.returns-clause-read
returns-clause-read c = whole_is_read

pub returns-clause-written : goal.returns-clause-written
returns-clause-written c = whole_is_written
