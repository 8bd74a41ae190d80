use Rattle.converter.proofs.Waiting.{stopped_threads_wait, lacking_threads_wait, settled_threads_wait, waiting_threads_lack}
use Rattle.converter.proofs.laws.threads_wait_for_what_they_lack.Goals as goal

pub returns-clause-stopped : goal.returns-clause-stopped
returns-clause-stopped c = stopped_threads_wait

pub returns-clause-lacking : goal.returns-clause-lacking
returns-clause-lacking c = lacking_threads_wait

pub returns-clause-settled : goal.returns-clause-settled
returns-clause-settled c = settled_threads_wait

pub returns-clause-waiting : goal.returns-clause-waiting
returns-clause-waiting c = waiting_threads_lack
