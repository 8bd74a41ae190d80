use Rattle.plain_model.proofs.FirstSound.{first_heap_is_sound}
use Rattle.plain_model.proofs.laws.the_first_heap_is_sound.Goals as goal

pub returns : goal.returns
returns c = first_heap_is_sound
