use Rattle.class_code.proofs.Numbered.{leads_to_its_rows}
use Rattle.class_code.proofs.laws.numbers_lead_to_their_rows.Goals as goal

pub returns : goal.returns
returns g c = λ native_at set class index c i. leads_to_its_rows native_at set class index c i
