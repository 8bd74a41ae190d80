use Rattle.workers.specs.Held.{began}
use Rattle.workers.proofs.Knowing.{starts}
use Rattle.workers.proofs.Sparing.{sink-starts}
use Rattle.workers.proofs.alone.Alone.new.Goals as goal

pub invariant_of-result : goal.invariant_of-result
invariant_of-result g c = (
  starts (g.C.Types.facts c.args.set.now) (g.H.Host.setting c.args.host.now) g.J.Naming.entry
      c.args.run.heap c.args.run.frames.items (g.W.Watcher.seen c.args.run.watcher) (g.S.Sink.taken c.args.run.sink)
      (g.S.Sink.takes c.args.run.sink) (g.S.Sink.faults c.args.run.sink) c.requires.entry c.requires.ready,
  sink-starts g.S.Sink.taken g.J.Naming.entry g.J.Naming.sink
      (began (g.C.Types.facts c.args.set.now) (g.H.Host.setting c.args.host.now) c.args.run.heap c.args.run.frames.items
      (g.W.Watcher.seen c.args.run.watcher) (g.S.Sink.taken c.args.run.sink) (g.S.Sink.takes c.args.run.sink)
      (g.S.Sink.faults c.args.run.sink))
      c.args.run.sink c.requires.entry c.requires.sink,
)
