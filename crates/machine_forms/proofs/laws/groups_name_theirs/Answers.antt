use Rattle.machine_forms.proofs.Naming.{groups_name_theirs}
use Rattle.machine_forms.proofs.Taking.{seals_take_queues}
use Rattle.machine_forms.proofs.laws.groups_name_theirs.Goals as goal

pub returns : goal.returns
returns c = record { names = groups_name_theirs; queues = seals_take_queues }
