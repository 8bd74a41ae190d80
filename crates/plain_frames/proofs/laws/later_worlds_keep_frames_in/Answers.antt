use Rattle.plain_frames.proofs.Later.{are-later}
use Rattle.plain_frames.proofs.laws.later_worlds_keep_frames_in.Goals as goal

pub returns : goal.returns
returns g c = λ set natives is_in world later t fs keeps is more begun.
    are-later set natives is_in keeps world later t more fs is begun
