use Rattle.machine.proofs.Work.{first_has_no_work, quiet_steps_are_few, quiet_steps_of_runs_are_few}
use Rattle.machine.proofs.work_laws.quiet_steps_are_few.Goals as goal

pub returns-clause-first : goal.returns-clause-first
returns-clause-first c = first_has_no_work

pub returns-clause-few : goal.returns-clause-few
returns-clause-few c = quiet_steps_are_few

pub returns-clause-runs : goal.returns-clause-runs
returns-clause-runs c = quiet_steps_of_runs_are_few
