use Rattle.audit_call.proofs.Unhindered.{done}
use Rattle.audit_call.proofs.laws.unhindered_is_done.Goals as goal

pub returns : goal.returns
returns c = record { done = done }
