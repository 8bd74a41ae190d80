use Rattle.compact_call.proofs.Unhindered.{done}
use Rattle.compact_call.proofs.laws.unhindered_is_done.Goals as goal

pub returns : goal.returns
returns c = done
