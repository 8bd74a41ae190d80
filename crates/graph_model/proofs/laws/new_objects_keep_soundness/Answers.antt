use Rattle.graph_model.proofs.Stores.{with_fresh-sound}
use Rattle.graph_model.proofs.laws.new_objects_keep_soundness.Goals as goal

pub returns : goal.returns
returns c heap shape count sound there room = with_fresh-sound heap shape count sound there room
