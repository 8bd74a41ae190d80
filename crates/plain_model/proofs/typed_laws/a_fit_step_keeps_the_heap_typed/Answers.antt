use Rattle.plain_model.proofs.StepTyped.{step_leaves_typed}
use Rattle.plain_model.proofs.typed_laws.a_fit_step_keeps_the_heap_typed.Goals as goal

pub returns : goal.returns
returns c set world t taken request o r consistent same typed fit does =
    step_leaves_typed set world consistent same typed t taken request o r fit does
