use Rattle.machine_ends.proofs.Ending.{steps-meet-none, fences-meet-none, stores-meet-none, ends-meet-none}
use Rattle.machine_ends.proofs.laws.acts_meet_no_fault.Goals as goal

pub returns-clause-steps : goal.returns-clause-steps
returns-clause-steps c = steps-meet-none c.machines_ask_as_plain_runs.ensures.ready

pub returns-clause-fences : goal.returns-clause-fences
returns-clause-fences c = fences-meet-none

pub returns-clause-stores : goal.returns-clause-stores
returns-clause-stores c = stores-meet-none c.machines_ask_as_plain_runs.ensures.ready

pub returns-clause-ends : goal.returns-clause-ends
returns-clause-ends c = ends-meet-none c.machines_ask_as_plain_runs.ensures.ready
