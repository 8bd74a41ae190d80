use Rattle.plain_frames.proofs.Runs.{frames-stay, worlds-are, duties-kept}
use Rattle.plain_frames.proofs.laws.programs_ask_what_is_fit.Goals as goal

pub returns-clause-duties : goal.returns-clause-duties
returns-clause-duties g c = λ set opening p natives method main is_in consistent is tables keeps is_main.
    duties-kept set opening p natives method main is_in consistent is tables keeps is_main

pub returns-clause-worlds : goal.returns-clause-worlds
returns-clause-worlds g c = λ set opening p natives method main is_in consistent is tables keeps is_main.
    worlds-are set opening p natives method main is_in consistent is tables keeps is_main

pub returns-clause-frames : goal.returns-clause-frames
returns-clause-frames g c = λ set opening p natives method main is_in consistent is tables keeps is_main.
    frames-stay set opening p natives method main is_in consistent is tables keeps is_main
