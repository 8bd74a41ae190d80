use Rattle.plain_frames.proofs.Stepping.{step-answers, step-in, others-in}
use Rattle.plain_frames.proofs.laws.steps_keep_frames_in_the_world.Goals as goal

pub returns-clause-answers : goal.returns-clause-answers
returns-clause-answers g c =
    λ set opening p natives method is_in world t taken fs o r consistent tables keeps good is does.
    step-answers set opening p natives method is_in consistent tables keeps world t good fs taken o r is does

pub returns-clause-own : goal.returns-clause-own
returns-clause-own g c =
    λ set opening p natives method is_in world t taken fs o r consistent tables keeps good is does.
    step-in set opening p natives method is_in consistent tables keeps world t good fs taken o r is does

pub returns-clause-others : goal.returns-clause-others
returns-clause-others g c = λ set natives is_in world t u taken request fs o r keeps fit does other is.
    others-in set natives is_in keeps world t taken request o r fit does u fs other is
