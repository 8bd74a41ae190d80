use Rattle.plain_frames.proofs.Answers.{answer-in, initialised-in}
use Rattle.plain_frames.proofs.laws.answers_keep_frames_in_the_world.Goals as goal

pub returns-clause-answers : goal.returns-clause-answers
returns-clause-answers g c = λ set opening p natives method is_in world t fs r tables keeps is known.
    answer-in set opening p natives method is_in tables keeps world t fs r is known

pub returns-clause-initialisers : goal.returns-clause-initialisers
returns-clause-initialisers g c =
    λ set opening p natives method is_in world t fs r tables keeps initialised goes_on is.
    initialised-in set opening p natives method is_in tables keeps world t fs r initialised goes_on is
