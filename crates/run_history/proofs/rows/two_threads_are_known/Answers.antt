use Rattle.std.proofs.Common.{refl}
use Rattle.run_history.specs.Knowing.{known_after_op}
use Rattle.run_history.proofs.rows.two_threads_are_known.Goals as goal

pub returns-clause-stores : goal.returns-clause-stores
unfolding known_after_op
returns-clause-stores c = refl

pub returns-clause-publishing : goal.returns-clause-publishing
unfolding known_after_op
returns-clause-publishing c = refl
