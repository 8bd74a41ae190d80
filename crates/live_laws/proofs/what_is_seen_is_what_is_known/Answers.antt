use Rattle.live_laws.proofs.Durables.{is_seen}
use Rattle.live_laws.proofs.what_is_seen_is_what_is_known.Goals as goal

pub returns : goal.returns
returns g c set main opening code acts consistent is duties run few =
    is_seen set main opening code consistent is duties acts run few
