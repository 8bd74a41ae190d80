use Rattle.plain_model.proofs.FirstRows.{first_heap_has_constants}
use Rattle.plain_model.proofs.rows.the_first_heap_has_the_constants.Goals as goal

pub returns : goal.returns
returns c = first_heap_has_constants
