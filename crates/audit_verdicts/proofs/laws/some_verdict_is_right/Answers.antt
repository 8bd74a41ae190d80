use Rattle.audit_verdicts.proofs.Verdicts.{some}
use Rattle.audit_verdicts.proofs.laws.some_verdict_is_right.Goals as goal

pub returns : goal.returns
returns g c = λ set main opening code acts keep output after none. some set main opening code acts keep output after none
