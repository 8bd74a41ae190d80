use Rattle.launch_laws.proofs.Turns.{turn-asks}
use Rattle.launch_laws.proofs.array_laws.turns_ask_so.Goals as goal

pub returns : goal.returns
returns g c = λ x fs request e. turn-asks x fs request e
