use Rattle.class_code.proofs.TablesOf.{tables_of_set}
use Rattle.class_code.proofs.class_laws.programs_are_their_sets.Goals as goal

pub returns : goal.returns
returns M c = λ native_at set linked. tables_of_set native_at set linked
