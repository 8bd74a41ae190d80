use Rattle.std.proofs.Common.{None, Some}
use Rattle.durable_run.specs.Turning.{fault_in}
use Rattle.workers.proofs.Knowing.{knows-none, left-over, left-rest, ready-left}
use Rattle.workers.proofs.Sparing.{sink-left, sink-on, sink-over}
use Rattle.workers.proofs.ends.ended_alone.Goals as goal

pub run_threads-end-requires : goal.run_threads-end-requires
run_threads-end-requires g c =
    let run = c.finish-over.result.1 in
    record {
      ready = ready-left g.J.Naming.entry c.args.alone run.heap run.frames.items (g.W.Watcher.seen run.watcher)
          (g.S.Sink.taken run.sink) (g.S.Sink.takes run.sink) (g.S.Sink.faults run.sink) c.finish-over.result.0 c.finish-over.ensures.left
          (g.C.Types.facts c.args.set.now) (g.H.Host.setting c.args.host.now) c.finish-over.ensures.knows c.requires.of c.in-None.is;
    }

pub returns-in-Some : goal.returns-in-Some
returns-in-Some g c =
    let run = c.finish-over.result.1 in
    record {
      left = rw (c.left_of.ensures.heap, c.left_of.ensures.watcher, c.left_of.ensures.sink) (left-over g.J.Naming.entry c.args.alone run.heap run.frames.items (g.W.Watcher.seen run.watcher)
          (g.S.Sink.taken run.sink) (g.S.Sink.takes run.sink) (g.S.Sink.faults run.sink) c.finish-over.result.0 c.finish-over.ensures.left
          c.finish-over.ensures.knows c.in-Some.fault c.in-Some.is);
      spares = rw (c.left_of.ensures.heap, c.left_of.ensures.sink) (sink-left g.S.Sink.taken g.J.Naming.entry g.J.Naming.sink (Some c.in-Some.fault) run.sink run.heap
          (sink-over g.S.Sink.taken g.J.Naming.entry g.J.Naming.sink c.finish-over.result.0 (Some c.in-Some.fault) run.sink run.heap
          c.in-Some.is c.finish-over.ensures.sink));
    }

pub returns-in-None : goal.returns-in-None
returns-in-None g c =
    let run = c.finish-over.result.1 in
    let left = c.run_threads-end.new.run in
    let taken = g.S.Sink.taken in
    let knows = knows-none g.J.Naming.entry c.args.alone run.heap run.frames.items (g.W.Watcher.seen run.watcher)
    (taken run.sink) (g.S.Sink.takes run.sink) (g.S.Sink.faults run.sink) c.finish-over.result.0 c.finish-over.ensures.left
    c.finish-over.ensures.knows c.in-None.is in
    record {
      left = rw (c.left_of-in-None.ensures.heap, c.left_of-in-None.ensures.watcher, c.left_of-in-None.ensures.sink) (left-rest g.J.Naming.entry c.args.alone run.heap run.frames.items (g.W.Watcher.seen run.watcher)
          (g.S.Sink.taken run.sink) (g.S.Sink.takes run.sink) (g.S.Sink.faults run.sink) c.finish-over.result.0 c.finish-over.ensures.left
          (g.C.Types.facts c.args.set.now) (g.H.Host.setting c.args.host.now) c.finish-over.ensures.knows c.requires.of c.in-None.is
          c.run_threads-end.result left.heap (g.W.Watcher.seen left.watcher) (g.S.Sink.taken left.sink)
          (g.S.Sink.takes left.sink) (g.S.Sink.faults left.sink)
          c.run_threads-end.ensures.ends c.run_threads-end.ensures.told c.run_threads-end.ensures.shares c.run_threads-end.ensures.cause c.run_threads-end.ensures.size);
      spares = rw (c.left_of-in-None.ensures.heap, c.left_of-in-None.ensures.sink) (sink-left taken g.J.Naming.entry g.J.Naming.sink (fault_in c.run_threads-end.result) left.sink left.heap
          (sink-on taken g.J.Naming.entry g.J.Naming.sink (g.C.Types.facts c.args.set.now) (g.H.Host.setting c.args.host.now)
          run.heap run.frames.items (g.W.Watcher.seen run.watcher) (taken run.sink) (g.S.Sink.takes run.sink)
          (g.S.Sink.faults run.sink) knows c.requires.of run.sink left.sink
          (sink-over taken g.J.Naming.entry g.J.Naming.sink c.finish-over.result.0 None run.sink run.heap c.in-None.is
          c.finish-over.ensures.sink)
          (fault_in c.run_threads-end.result) left.heap c.run_threads-end.ensures.spares));
    }
