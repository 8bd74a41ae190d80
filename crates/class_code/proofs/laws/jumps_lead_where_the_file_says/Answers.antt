use Rattle.class_code.proofs.Leading.{jumps_lead}
use Rattle.class_code.proofs.laws.jumps_lead_where_the_file_says.Goals as goal

pub returns : goal.returns
returns g c = λ native_at set m site start h. jumps_lead native_at set m site start h
