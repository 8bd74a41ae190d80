use Rattle.class_code.proofs.Leading.{stands_there}
use Rattle.class_code.proofs.laws.methods_stand_where_their_code_does.Goals as goal

pub returns : goal.returns
returns g c = λ native_at set m site start h. stands_there native_at set m site start h
