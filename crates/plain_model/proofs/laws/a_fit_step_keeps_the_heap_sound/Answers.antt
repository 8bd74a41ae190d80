use Rattle.plain_model.proofs.StepSound.{keeps-step}
use Rattle.plain_model.proofs.laws.a_fit_step_keeps_the_heap_sound.Goals as goal

pub returns : goal.returns
returns c set world t taken request o r complete same sound fit is few = keeps-step set world complete same sound t taken request fit o r is few
