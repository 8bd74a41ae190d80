use Rattle.std.proofs.Common.{◌≡◌, ℕ, None}
use Rattle.machine.specs.Passed.{Opening, memory_of}
use Rattle.machine.specs.Passed.{measure}
use Rattle.durable_run.specs.Shares.{PrintsShares}
use Rattle.durable_run.specs.Sparing.{SparesSink}
use Rattle.durable_run.specs.Telling.{HasTold, IsCaused}
use Rattle.durable_run.specs.Turning.{IsReady, TurnsGoOn}
use Rattle.durable_run.proofs.runs.next_act.Given as goal

-- No act was made yet, and an event may come still.
abbrev pub invariant-passes : goal.invariant-passes
invariant-passes g l = record {
  ready : (o : Opening) (first : ℕ)
      → IsReady o first (g.C.Types.facts l.set) (g.H.Host.setting l.host) l.initial.run.heap
      l.initial.run.frames.items
      → IsReady o first (g.C.Types.facts l.set) (g.H.Host.setting l.host) l.run.heap l.run.frames.items;
  told : HasTold l.initial.run.heap.history.acts l.run.heap.history.acts
      (g.W.Watcher.seen l.initial.run.watcher)
      (g.W.Watcher.seen l.run.watcher) (g.S.Sink.taken l.initial.run.sink) (g.S.Sink.taken l.run.sink);
  shares : (o : Opening) (first : ℕ)
      → IsReady o first (g.C.Types.facts l.set) (g.H.Host.setting l.host) l.initial.run.heap
      l.initial.run.frames.items
      → PrintsShares o.launch (g.S.Sink.takes l.initial.run.sink) (g.S.Sink.takes l.run.sink)
      l.initial.run.heap.history.acts l.run.heap.history.acts;
  spares : (o : Opening) (first : ℕ)
      → IsReady o first (g.C.Types.facts l.set) (g.H.Host.setting l.host) l.initial.run.heap
      l.initial.run.frames.items
      → SparesSink g.S.Sink.taken o.launch None l.initial.run.sink l.run.sink
      l.initial.run.heap.history.acts l.run.heap.history.acts;
  cause : IsCaused None (g.S.Sink.faults l.initial.run.sink) (g.S.Sink.faults l.run.sink)
      (memory_of l.initial.run.heap.machine).faults (memory_of l.run.heap.machine).faults;
  turns : TurnsGoOn l.initial.run.turns l.run.turns;
  none : l.run.heap.history.acts ≡ l.initial.run.heap.history.acts;
  limit : l.run.heap.history.limit ≡ l.initial.run.heap.history.limit;
}

abbrev pub decreases-passes : goal.decreases-passes
decreases-passes g l = measure l.run.heap.machine
