use Rattle.std.proofs.Common.{Some}
use Rattle.workers.specs.Held.{began}
use Rattle.workers.proofs.run.run_all.Given as goal

-- the run that begins here
abbrev pub ghosts-run_named : goal.ghosts-run_named
ghosts-run_named g a = record {
  entry = Some (began (g.C.Types.facts a.set.now) (g.H.Host.setting a.host.now) a.run.heap a.run.frames.items
      (g.W.Watcher.seen a.run.watcher) (g.S.Sink.taken a.run.sink) (g.S.Sink.takes a.run.sink)
      (g.S.Sink.faults a.run.sink));
  sink = Some a.run.sink;
}
