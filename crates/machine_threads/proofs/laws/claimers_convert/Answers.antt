use Rattle.machine_threads.proofs.Claiming.{claimers_convert, claimers_have_asked, others_have_nothing}
use Rattle.machine_threads.proofs.laws.claimers_convert.Goals as goal

pub returns-clause-asked : goal.returns-clause-asked
returns-clause-asked c = claimers_have_asked

pub returns-clause-convert : goal.returns-clause-convert
returns-clause-convert c = claimers_convert

pub returns-clause-others : goal.returns-clause-others
returns-clause-others c = others_have_nothing
