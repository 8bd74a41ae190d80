use Rattle.std.proofs.Common.{ℕ, sym, subst, arith}
use Rattle.region_events.specs.Laws.{with_entry}
use Rattle.region_log.specs.Guarding.{IsGuarded}
use Rattle.region_log.specs.Log.{entry_of}
use Rattle.store_barrier.specs.Passed.{log_of}
use Rattle.shared_heap.specs.Shared.{Shared}
use Rattle.shared_heap.proofs.Logging.{logs_become, same_set}
use Rattle.shared_heap.proofs.heap.SharedHeap.name_word.Goals as goal

pub guard-requires-clause-free : goal.guard-requires-clause-free
guard-requires-clause-free g c = subst (λ (s : Shared). (u : ℕ) → IsGuarded (log_of s.machine u) c.args.spot → ⊥)
    (sym c.self.view_is) c.requires.free

pub returns : goal.returns
returns g c =
    let below = c.number-number.ensures.below in let same = c.number-number.ensures.same in
    logs_become _ c.args.self.now c.guard.new.self.logs c.args.t
    (λ log. with_entry log (entry_of c.args.spot c.args.old)) c.self.view_is
    (same_set c.self.inside.logs.logs c.guard.new.self.logs c.args.t _ c.stand_apart.ensures.count
    c.stand_apart-2.ensures.count (omega (arith, below, same)) c.guard.ensures.others.logs c.guard.ensures.named)
