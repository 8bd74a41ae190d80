use Rattle.std.proofs.Common.{length}
use Rattle.const_pool.proofs.Grammar.{parameters_take}
use Rattle.const_pool.proofs.descriptor.method.Goals as goal

pub result_type-requires : goal.result_type-requires
result_type-requires c =
    let bytes = c.args.bytes.now in
    (parameters_take (length bytes) bytes (c.in_ok-types.types.items, c.in_ok-types.rest.now) c.requires c.in_ok-types.ensures).good
