use Rattle.std.proofs.Common.{refl, sym, subst, arith}
use Rattle.region_log.specs.Kept.{KeepsLog}
use Rattle.region_log.specs.Stages.{CanEnd}
use Rattle.store_barrier.specs.Passed.{log_of, memory_of}
use Rattle.store_barrier.specs.Regions.{log_in}
use Rattle.shared_heap.specs.Shared.{Shared}
use Rattle.shared_heap.proofs.Logging.{same_set}
use Rattle.shared_heap.proofs.Regioning.{ends_called, ends_failed, failed_part_from, part_from}
use Rattle.shared_heap.proofs.heap.SharedHeap.end_part.Goals as goal

pub returns-clause-ends : goal.returns-clause-ends
returns-clause-ends g c =
    let few = c.calls-calls.type_inv in let is = c.calls-calls.ensures in
    let below = c.number-number.ensures.below in let same = c.number-number.ensures.same in
    let now = c.end_next-result.new.self.logs in
    part_from c.args.t _ c.args.self.now _ c.end_next-result.result c.self.view_is
    (ends_called _ c.args.t (log_in now c.args.t) c.end_next-result.new.memory now
    c.tell_log_fence.new.queue c.end_next-result.result record {
      called = record {
        thread = omega (arith, below, same);
        resident = c.every_line_is_resident.ensures;
        few = omega (arith, few, is);
        logs_are = same_set c.self.inside.logs.logs now c.args.t (log_in now c.args.t) c.stand_apart.ensures.count
            c.stand_apart-2.ensures.count (omega (arith, below, same)) c.end_next-result.ensures.others.logs refl;
        fences = c.fences_next-fences.result;
        made = c.is_ok.result;
        is_next = c.fences_next-fences.ensures;
        is_done = c.is_ok.ensures.value;
        told = c.tell_log_fence.ensures.told;
      };
      can = subst (λ (s : Shared). CanEnd (log_of s.machine c.args.t).underway) (sym c.self.view_is) c.requires.can;
      keeps = subst (λ (s : Shared). KeepsLog (log_of s.machine c.args.t) (memory_of s.machine)) (sym c.self.view_is)
          c.requires.keeps;
      part = c.end_next-result.ensures.part;
    })

pub returns-clause-failed : goal.returns-clause-failed
returns-clause-failed g c =
    let few = c.calls-calls.type_inv in let is = c.calls-calls.ensures in
    let below = c.number-number.ensures.below in let same = c.number-number.ensures.same in
    let now = c.end_next-result.new.self.logs in
    failed_part_from c.args.t _ c.args.self.now _ c.end_next-result.result c.self.view_is
    (ends_failed _ c.args.t (log_in now c.args.t) c.end_next-result.new.memory now
    c.tell_log_fence.new.queue c.end_next-result.result record {
      called = record {
        thread = omega (arith, below, same);
        resident = c.every_line_is_resident.ensures;
        few = omega (arith, few, is);
        logs_are = same_set c.self.inside.logs.logs now c.args.t (log_in now c.args.t) c.stand_apart.ensures.count
            c.stand_apart-2.ensures.count (omega (arith, below, same)) c.end_next-result.ensures.others.logs refl;
        fences = c.fences_next-fences.result;
        made = c.is_ok.result;
        is_next = c.fences_next-fences.ensures;
        is_done = c.is_ok.ensures.value;
        told = c.tell_log_fence.ensures.told;
      };
      can = subst (λ (s : Shared). CanEnd (log_of s.machine c.args.t).underway) (sym c.self.view_is) c.requires.can;
      keeps = subst (λ (s : Shared). KeepsLog (log_of s.machine c.args.t) (memory_of s.machine)) (sym c.self.view_is)
          c.requires.keeps;
      part = c.end_next-result.ensures.part;
    })
