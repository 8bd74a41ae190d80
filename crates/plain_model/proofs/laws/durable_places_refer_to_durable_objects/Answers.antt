use Rattle.run_history.specs.Wanted.{NoWish}
use Rattle.plain_model.specs.First.{first_known}
use Rattle.plain_model.specs.Runs.{first_frames}
use Rattle.plain_model.proofs.Closed.{closed_at_first, closed_after}
use Rattle.plain_model.proofs.laws.durable_places_refer_to_durable_objects.Goals as goal

pub returns : goal.returns
returns g c set main opening code front rest is run =
    closed_after set main opening code (first_known set opening) (first_frames set main opening code) NoWish front rest (closed_at_first set opening is) run
