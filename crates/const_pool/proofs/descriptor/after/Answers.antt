use Rattle.std.proofs.Common.{arith}
use Rattle.const_pool.proofs.Grammar.{head_good}
use Rattle.const_pool.proofs.descriptor.after.Goals as goal

pub returns-in-len1-up-clause-utf8 : goal.returns-in-len1-up-clause-utf8
returns-in-len1-up-clause-utf8 c = λ good. head_good c.args.byte c.args.bytes.now good c.requires (omega arith) (omega arith)
