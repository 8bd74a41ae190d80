use Rattle.std.proofs.Common.{sym}
use Rattle.const_pool.proofs.Grammar.{name_good}
use Rattle.const_pool.proofs.descriptor.class_type.Goals as goal

pub copy-requires : goal.copy-requires
copy-requires c = name_good c.args.bytes.now c.in-Some.len c.requires (sym c.in-Some.ensures.len)
