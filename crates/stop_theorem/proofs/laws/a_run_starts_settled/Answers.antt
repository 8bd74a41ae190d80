use Rattle.stop_theorem.proofs.Runs.{orderly_first}
use Rattle.stop_theorem.proofs.Found.{starts_found}
use Rattle.stop_theorem.proofs.Starting.{stands_first}
use Rattle.stop_theorem.proofs.laws.a_run_starts_settled.Goals as goal

pub returns-clause-starts : goal.returns-clause-starts
returns-clause-starts c known lay m s = stands_first known lay m s (orderly_first known s.no_marks)

pub returns-clause-found : goal.returns-clause-found
returns-clause-found c = starts_found
