use Rattle.audit_keeping.proofs.Begun.{keeping-begins}
use Rattle.audit_keeping.proofs.laws.keeping_begins.Goals as goal

pub returns : goal.returns
returns c = keeping-begins
