use Rattle.stop_theorem.proofs.Allowed.{allowed_now}
use Rattle.stop_theorem.proofs.invariant_laws.a_stop_leaves_what_is_allowed.Goals as goal

pub returns : goal.returns
returns c first acts lay Waits m out s left = allowed_now first acts lay Waits m out s left
