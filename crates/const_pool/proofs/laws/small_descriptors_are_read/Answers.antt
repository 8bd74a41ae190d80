use Rattle.const_pool.proofs.Rows.{descriptors_are_parsed, others_are_none}
use Rattle.const_pool.proofs.laws.small_descriptors_are_read.Goals as goal

pub returns-clause-read : goal.returns-clause-read
returns-clause-read c = descriptors_are_parsed

pub returns-clause-none : goal.returns-clause-none
returns-clause-none c = others_are_none
