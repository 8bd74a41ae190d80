use Rattle.class_code.proofs.Inheriting.{inherits}
use Rattle.class_code.proofs.class_laws.calls_find_own_methods_first.Goals as goal

pub returns : goal.returns
returns M c = λ native_at set n links l. inherits native_at set n links l
