use Rattle.audit_verdicts.proofs.Verdicts.{exclude}
use Rattle.audit_verdicts.proofs.laws.verdicts_exclude_each_other.Goals as goal

pub returns : goal.returns
returns g c = λ set main opening code acts keep output after v w a b. exclude set main opening code acts keep output after v w a b
