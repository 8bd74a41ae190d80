use Rattle.run_history.specs.Wanted.{NoWish}
use Rattle.plain_model.specs.First.{first_known}
use Rattle.plain_model.specs.Runs.{first_frames}
use Rattle.told_runs.proofs.Told.{act-whole}
use Rattle.told_runs.proofs.laws.tests_of_runs_are_whole.Goals as goal

pub returns : goal.returns
returns g c = λ set main opening code front a rest run.
    act-whole set main opening code (first_known set opening) (first_frames set main opening code) NoWish front a rest run
