use Rattle.plain_machine.proofs.Begun.{begins}
use Rattle.plain_machine.proofs.laws.machines_begin.Goals as goal

pub returns : goal.returns
returns c = begins c.machines_go_on_as_plain_runs.ensures.heaps
