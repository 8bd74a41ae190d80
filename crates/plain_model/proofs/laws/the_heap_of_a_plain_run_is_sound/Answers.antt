use Rattle.plain_model.proofs.RunSound.{sound_after}
use Rattle.plain_model.proofs.laws.the_heap_of_a_plain_run_is_sound.Goals as goal

pub returns : goal.returns
returns g c set main opening code acts complete is duties run few = sound_after set main opening code complete acts is duties run few
