use Rattle.audit_verdicts.proofs.Verdicts.{allowed}
use Rattle.audit_verdicts.proofs.laws.yes_means_allowed.Goals as goal

pub returns : goal.returns
returns g c = λ set main opening code acts keep output after is. allowed set main opening code acts keep output after is
