use Rattle.code_form.proofs.Rows.{each_is_refused}
use Rattle.code_form.proofs.laws.what_is_no_code_is_refused.Goals as goal

pub returns : goal.returns
returns c = each_is_refused
