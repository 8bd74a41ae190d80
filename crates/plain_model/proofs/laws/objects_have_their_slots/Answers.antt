use Rattle.plain_model.proofs.Slots.{objects_have_their_slots}
use Rattle.plain_model.proofs.laws.objects_have_their_slots.Goals as goal

pub returns : goal.returns
returns g c set main opening code acts complete is run =
    objects_have_their_slots set main opening code complete is acts run
