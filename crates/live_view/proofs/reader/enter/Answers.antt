use Rattle.live_view.proofs.Tied.{looks}
use Rattle.live_view.proofs.reader.enter.Goals as goal

pub enter_as-requires : goal.enter_as-requires
enter_as-requires g c x = looks _ _ x
