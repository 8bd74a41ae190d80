use Rattle.audit_rules.proofs.There.{durable-there}
use Rattle.audit_rules.proofs.Closing.{closed-by-act}
use Rattle.audit_rules.proofs.laws.acts_keep_what_is_durable_closed.Goals as goal

pub returns : goal.returns
returns c = record { closed = closed-by-act; there = durable-there }
