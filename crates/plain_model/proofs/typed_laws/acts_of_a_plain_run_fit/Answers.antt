use Rattle.plain_model.proofs.TypedRuns.{act_fits_its_heap}
use Rattle.plain_model.proofs.typed_laws.acts_of_a_plain_run_fit.Goals as goal

pub returns : goal.returns
returns g c set main opening code front a rest consistent is duties run few =
    act_fits_its_heap set main opening code consistent is duties front a rest run few
