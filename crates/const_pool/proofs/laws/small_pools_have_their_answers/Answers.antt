use Rattle.const_pool.proofs.Rows.{pools_are_answers, faults_are_answers}
use Rattle.const_pool.proofs.laws.small_pools_have_their_answers.Goals as goal

pub returns-clause-read : goal.returns-clause-read
returns-clause-read c = pools_are_answers

pub returns-clause-refused : goal.returns-clause-refused
returns-clause-refused c = faults_are_answers
