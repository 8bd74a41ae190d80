use Rattle.audit_keeping.proofs.Steps.{acts-decided, joined-decided}
use Rattle.audit_keeping.proofs.laws.what_is_kept_decides_acts.Goals as goal

pub returns : goal.returns
returns c = record { acts = acts-decided; joined = joined-decided }
