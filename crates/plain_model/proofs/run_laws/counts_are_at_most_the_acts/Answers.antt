use Rattle.plain_model.proofs.Counts.{counts_are_at_most_acts}
use Rattle.plain_model.proofs.run_laws.counts_are_at_most_the_acts.Goals as goal

pub returns : goal.returns
returns g c set main opening code acts run = counts_are_at_most_acts set main opening code acts run
