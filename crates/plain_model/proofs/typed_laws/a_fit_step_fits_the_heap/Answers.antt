use Rattle.plain_model.proofs.StepFits.{step_fits}
use Rattle.plain_model.proofs.typed_laws.a_fit_step_fits_the_heap.Goals as goal

pub returns : goal.returns
returns c set world t taken request o r consistent of_set fit does few =
    step_fits set world consistent of_set t taken request o r fit does few
