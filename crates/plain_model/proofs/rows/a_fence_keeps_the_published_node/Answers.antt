use Rattle.plain_model.proofs.Fencing.{either_before, node_after}
use Rattle.plain_model.proofs.rows.a_fence_keeps_the_published_node.Goals as goal

pub returns : goal.returns
returns c = record { before = either_before; after = node_after }
