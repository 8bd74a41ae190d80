use Rattle.dense_image.proofs.Written.{can_be_stood_for}
use Rattle.dense_image.proofs.laws.standing_graphs_can_be_written.Goals as goal

pub returns : goal.returns
returns c = can_be_stood_for
