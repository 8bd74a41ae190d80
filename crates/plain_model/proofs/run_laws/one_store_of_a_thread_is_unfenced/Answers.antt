use Rattle.plain_model.proofs.Unfenced.{one_store_is_unfenced}
use Rattle.plain_model.proofs.run_laws.one_store_of_a_thread_is_unfenced.Goals as goal

pub returns : goal.returns
returns g c set main opening code acts t run = one_store_is_unfenced set main opening code acts t run
