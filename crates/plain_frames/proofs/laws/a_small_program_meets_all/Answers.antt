use Rattle.plain_frames.proofs.Small.{meets_all}
use Rattle.plain_frames.proofs.SmallRun.{runs_so}
use Rattle.plain_frames.proofs.laws.a_small_program_meets_all.Goals as goal

pub returns-clause-premises : goal.returns-clause-premises
returns-clause-premises c = meets_all

pub returns-clause-run : goal.returns-clause-run
returns-clause-run c = runs_so
