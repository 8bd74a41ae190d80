use Rattle.plain_model.proofs.Typing.{first_heap_is_typed}
use Rattle.plain_model.proofs.laws.the_first_heap_is_typed.Goals as goal

pub returns : goal.returns
returns c set opening consistent is = first_heap_is_typed set opening consistent is
