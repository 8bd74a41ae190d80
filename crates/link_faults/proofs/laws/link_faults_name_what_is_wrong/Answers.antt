use Rattle.link_faults.proofs.LinkFaults.{link_faults_named}
use Rattle.link_faults.proofs.laws.link_faults_name_what_is_wrong.Goals as goal

pub returns : goal.returns
returns g c = link_faults_named
