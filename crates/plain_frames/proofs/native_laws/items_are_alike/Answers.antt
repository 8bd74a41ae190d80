use Rattle.plain_frames.proofs.Items.{items_are_alike}
use Rattle.plain_frames.proofs.native_laws.items_are_alike.Goals as goal

pub returns : goal.returns
returns c = items_are_alike
