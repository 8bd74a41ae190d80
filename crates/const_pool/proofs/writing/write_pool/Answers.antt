use Rattle.std.proofs.Common.{All, sym, subst}
use Rattle.const_pool.specs.Pool.{Slots, FitsSlot}
use Rattle.const_pool.proofs.Lookups.{slots_fit}
use Rattle.const_pool.proofs.writing.write_pool.Goals as goal

pub put_slots-requires : goal.put_slots-requires
put_slots-requires c = subst (λ (s : Slots). All FitsSlot s) (sym c.slots.ensures.slots) (slots_fit c.args.pool.now c.slots.ensures.pool)
