-- The acts before a call are a front of the acts.
use Rattle.run_history.proofs.ActsBefore.{acts_before-front, acts_before-all}
use Rattle.run_history.proofs.laws.a_moment_s_acts.Goals as goal

pub returns-clause-front : goal.returns-clause-front
returns-clause-front c = acts_before-front

pub returns-clause-all : goal.returns-clause-all
returns-clause-all c = acts_before-all
