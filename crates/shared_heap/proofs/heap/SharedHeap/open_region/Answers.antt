use Rattle.std.proofs.Common.{arith}
use Rattle.region_events.specs.Laws.{one_deeper}
use Rattle.shared_heap.proofs.Logging.{logs_become, same_set}
use Rattle.shared_heap.proofs.heap.SharedHeap.open_region.Goals as goal

pub returns : goal.returns
returns g c =
    let below = c.number-number.ensures.below in let same = c.number-number.ensures.same in
    record {
      deeper = logs_become _ c.args.self.now c.begin.new.self.logs c.args.t one_deeper c.self.view_is
          (same_set c.self.inside.logs.logs c.begin.new.self.logs c.args.t _ c.stand_apart.ensures.count
          c.stand_apart-2.ensures.count (omega (arith, below, same)) c.begin.ensures.others.logs c.begin.ensures.opened);
    }
