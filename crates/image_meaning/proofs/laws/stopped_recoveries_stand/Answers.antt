use Rattle.image_meaning.proofs.Stopped.{stopped-stands, stopped-again}
use Rattle.image_meaning.proofs.laws.stopped_recoveries_stand.Goals as goal

pub returns-clause-stand : goal.returns-clause-stand
returns-clause-stand _ size c d graph used stands r = stopped-stands size c d graph used stands r

pub returns-clause-again : goal.returns-clause-again
returns-clause-again _ size c d e graph used stands first second = stopped-again size c d e graph used stands first second
