use Rattle.shared_steps.proofs.Lasting.{words_kept, objects_kept}
use Rattle.shared_steps.proofs.laws.a_step_leaves_the_words_of_the_limits.Goals as goal

pub returns-clause-words : goal.returns-clause-words
returns-clause-words c set t request before rest result now rest_now limits opening step there left =
    words_kept set t request before rest now rest_now limits opening result step.is there left

pub returns-clause-objects : goal.returns-clause-objects
returns-clause-objects c set t request before rest result now rest_now step =
    objects_kept set t request before rest now rest_now result step.fit step.is
