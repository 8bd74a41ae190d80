use Rattle.std.proofs.Common.{◌≡◌, true, refl, sym, subst, arith}
use Rattle.region_log.specs.Guarding.{is_adding}
use Rattle.store_barrier.specs.Passed.{log_of}
use Rattle.store_barrier.specs.Regions.{log_in}
use Rattle.shared_heap.specs.Shared.{Shared}
use Rattle.shared_heap.proofs.Logging.{same_set}
use Rattle.shared_heap.proofs.Regioning.{failed_logging_from, logging_failed, logs_called, logs_from}
use Rattle.shared_heap.proofs.heap.SharedHeap.log_next.Goals as goal

pub returns-clause-logs : goal.returns-clause-logs
returns-clause-logs g c =
    let few = c.calls-calls.type_inv in let is = c.calls-calls.ensures in
    let below = c.number-number.ensures.below in let same = c.number-number.ensures.same in
    let now = c.log_next-result.new.self.logs in
    logs_from c.args.t _ c.args.self.now _ c.log_next-result.result c.self.view_is
    (logs_called _ c.args.t (log_in now c.args.t) c.log_next-result.new.memory now
    c.tell_log_fence.new.queue c.log_next-result.result record {
      thread = omega (arith, below, same);
      resident = c.every_line_is_resident.ensures;
      few = omega (arith, few, is);
      logs_are = same_set c.self.inside.logs.logs now c.args.t (log_in now c.args.t) c.stand_apart.ensures.count
          c.stand_apart-2.ensures.count (omega (arith, below, same)) c.log_next-result.ensures.others.logs refl;
      fences = c.fences_next-fences.result;
      made = c.is_ok.result;
      is_next = c.fences_next-fences.ensures;
      is_done = c.is_ok.ensures.value;
      told = c.tell_log_fence.ensures.told;
    }
    (subst (λ (s : Shared). is_adding (log_of s.machine c.args.t).underway ≡ true) (sym c.self.view_is)
    c.requires.named)
    c.log_next-result.ensures.part)

pub returns-clause-failed : goal.returns-clause-failed
returns-clause-failed g c =
    let few = c.calls-calls.type_inv in let is = c.calls-calls.ensures in
    let below = c.number-number.ensures.below in let same = c.number-number.ensures.same in
    let now = c.log_next-result.new.self.logs in
    failed_logging_from c.args.t _ c.args.self.now _ c.log_next-result.result c.self.view_is
    (logging_failed _ c.args.t (log_in now c.args.t) c.log_next-result.new.memory now
    c.tell_log_fence.new.queue c.log_next-result.result record {
      thread = omega (arith, below, same);
      resident = c.every_line_is_resident.ensures;
      few = omega (arith, few, is);
      logs_are = same_set c.self.inside.logs.logs now c.args.t (log_in now c.args.t) c.stand_apart.ensures.count
          c.stand_apart-2.ensures.count (omega (arith, below, same)) c.log_next-result.ensures.others.logs refl;
      fences = c.fences_next-fences.result;
      made = c.is_ok.result;
      is_next = c.fences_next-fences.ensures;
      is_done = c.is_ok.ensures.value;
      told = c.tell_log_fence.ensures.told;
    }
    (subst (λ (s : Shared). is_adding (log_of s.machine c.args.t).underway ≡ true) (sym c.self.view_is)
    c.requires.named)
    c.log_next-result.ensures.part)
