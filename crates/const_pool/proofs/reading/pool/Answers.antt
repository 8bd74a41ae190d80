use Rattle.std.proofs.Common.{arith}
use Rattle.const_pool.proofs.Pools.{pool_stands}
use Rattle.const_pool.proofs.reading.pool.Goals as goal

pub from_slots-requires : goal.from_slots-requires
from_slots-requires c =
    (pool_stands c.args.bytes.now (c.in_ok-slots.slots.items, c.in_ok-slots.after) (λ i. omega (arith, c.type_inv.bytes i)) c.in_ok-slots.ensures).pool
