use Rattle.plain_frames.proofs.Turns.{turn-in}
use Rattle.plain_frames.proofs.laws.turns_are_fit.Goals as goal

pub returns : goal.returns
returns g c = λ set opening p natives method is_in world t fs tables keeps literals is.
    turn-in set opening p natives method is_in tables keeps world t literals fs is
