use Rattle.std.proofs.Common.{refl}
use Rattle.run_history.proofs.rows.operations_change_their_part.Goals as goal

pub returns-clause-monitors : goal.returns-clause-monitors
returns-clause-monitors c = record { entered = refl; one_exit = refl; given_up = refl }

pub returns-clause-classes : goal.returns-clause-classes
returns-clause-classes c = record { begun = refl; ready = refl; finished = refl }

pub returns-clause-threads : goal.returns-clause-threads
returns-clause-threads c = record { started = refl; deeper = refl; ended = refl }

pub returns-clause-heaps : goal.returns-clause-heaps
returns-clause-heaps c = record { made = refl; thrown = refl; static = refl; slot = refl }

pub returns-clause-none : goal.returns-clause-none
returns-clause-none c = refl

pub returns-clause-fits : goal.returns-clause-fits
returns-clause-fits c = refl
