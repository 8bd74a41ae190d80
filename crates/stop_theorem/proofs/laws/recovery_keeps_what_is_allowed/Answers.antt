use Rattle.stop_theorem.proofs.Recovered.{recovered_allowed}
use Rattle.stop_theorem.proofs.laws.recovery_keeps_what_is_allowed.Goals as goal

pub returns : goal.returns
returns c = recovered_allowed
