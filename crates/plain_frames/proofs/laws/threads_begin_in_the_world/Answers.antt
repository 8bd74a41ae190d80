use Rattle.plain_frames.proofs.Runs.{main-begins, thread-begins}
use Rattle.plain_frames.proofs.laws.threads_begin_in_the_world.Goals as goal

pub returns-clause-main : goal.returns-clause-main
returns-clause-main g c = λ set opening main method is_in is. main-begins set opening is_in main method is

pub returns-clause-threads : goal.returns-clause-threads
returns-clause-threads g c = λ set is_in world t n there. thread-begins set is_in world t n there
