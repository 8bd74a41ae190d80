use Rattle.graph_model.proofs.Stores.{stored-sound}
use Rattle.graph_model.proofs.laws.stores_keep_soundness.Goals as goal

pub returns : goal.returns
returns c heap place value sound below = stored-sound heap place value sound below
