use Rattle.convert_waits.proofs.Deadlock.{deadlocks_are_stuck, one_wait_is_not_stuck}
use Rattle.convert_waits.proofs.laws.deadlocks_are_stuck.Goals as goal

pub returns-clause-both : goal.returns-clause-both
returns-clause-both c = deadlocks_are_stuck

pub returns-clause-one : goal.returns-clause-one
returns-clause-one c = one_wait_is_not_stuck
