use Rattle.class_code.proofs.Naming.{named}
use Rattle.class_code.proofs.class_laws.programs_name_what_is_there.Goals as goal

pub returns : goal.returns
returns M c = λ native_at set linked. named native_at set linked
