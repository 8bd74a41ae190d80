use Rattle.std.proofs.Common.{◌≡◌, drop, true}
use Rattle.const_pool.specs.Parsing.{name_len}
use Rattle.const_pool.proofs.Descriptors.{further}
use Rattle.const_pool.proofs.descriptor.class_name_len.Given as goal

abbrev pub invariant-loop-len : goal.invariant-loop-len
invariant-loop-len l = further l.len (name_len l.fresh (drop l.len l.bytes)) ≡ name_len true l.bytes
