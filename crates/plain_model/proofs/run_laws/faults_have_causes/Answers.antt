use Rattle.plain_model.proofs.Causes.{faults_have_causes}
use Rattle.plain_model.proofs.run_laws.faults_have_causes.Goals as goal

pub returns : goal.returns
returns g c set main opening code limits lines acts t f is =
    faults_have_causes set main opening code limits lines acts t f is
