use Rattle.std.proofs.Common.{◌≡◌, ◌∙◌, true, Some, ap, subst, sym}
use Rattle.std.specs.Prelude.{All}
use Rattle.shared_objects.specs.declared.threads.ThreadState.{ThreadState}
use Rattle.durable_run.specs.Passed.{Shared}
use Rattle.durable_run.specs.Turning.{fault_in}
use Rattle.workers.specs.Held.{Held}
use Rattle.workers.proofs.Knowing.{left-ended, left-over}
use Rattle.workers.proofs.Sparing.{sink-left, sink-over}
use Rattle.workers.proofs.ends.ended_shared.Goals as goal

pub ended-end-requires : goal.ended-end-requires
ended-end-requires g c =
    let is = c.finish-over.ensures.left.1 in
    subst (λ (s : Shared). All (λ (state : ThreadState). state.ended ≡ true) s.machine.rest.threads) (ap (λ (k : Held). k.heap) is)
    (c.requires.ended (ap (λ (k : Held). k.over) is ∙ c.in-None.is))

pub returns-in-Some : goal.returns-in-Some
returns-in-Some g c =
    let left = c.finish-over.result.1 in
    record {
      left = left-over g.J.Naming.entry c.args.locked.run left.heap c.finish-over.ensures.left.0 (g.W.Watcher.seen left.watcher)
          (g.S.Sink.taken left.sink) (g.S.Sink.takes left.sink) (g.S.Sink.faults left.sink) c.finish-over.result.0
          c.finish-over.ensures.left.1 c.finish-over.ensures.knows c.in-Some.fault c.in-Some.is;
      spares = sink-left g.S.Sink.taken g.J.Naming.entry g.J.Naming.sink (Some c.in-Some.fault) left.sink left.heap
          (sink-over g.S.Sink.taken g.J.Naming.entry g.J.Naming.sink c.finish-over.result.0 (Some c.in-Some.fault) left.sink left.heap
          c.in-Some.is c.finish-over.ensures.sink);
    }

pub returns-in-None : goal.returns-in-None
returns-in-None g c =
    let left = c.finish-over.result.1 in
    record {
      left = left-ended g.J.Naming.entry c.args.locked.run left.heap c.finish-over.ensures.left.0 (g.W.Watcher.seen left.watcher)
          (g.S.Sink.taken left.sink) (g.S.Sink.takes left.sink) (g.S.Sink.faults left.sink) c.finish-over.result.0
          c.finish-over.ensures.left.1 c.finish-over.ensures.knows c.in-None.is c.ended-end.result c.ended-end.ensures.ends
          c.ended-end.ensures.unfaulted;
      spares = sink-left g.S.Sink.taken g.J.Naming.entry g.J.Naming.sink (fault_in c.ended-end.result) left.sink left.heap
          (sink-over g.S.Sink.taken g.J.Naming.entry g.J.Naming.sink c.finish-over.result.0 (fault_in c.ended-end.result) left.sink left.heap
          (c.in-None.is ∙ sym c.ended-end.ensures.unfaulted) c.finish-over.ensures.sink);
    }
