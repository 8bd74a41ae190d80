use Rattle.std.proofs.Common.{◌≡◌, ◌-◌, ◌<◌, ◌≤◌, ℕ, true, false, length, None}
use Rattle.machine.specs.Passed.{Opening, memory_of}
use Rattle.durable_run.specs.Shares.{PrintsShares}
use Rattle.durable_run.specs.Sparing.{SparesSink}
use Rattle.durable_run.specs.Telling.{HasTold, IsCaused}
use Rattle.durable_run.specs.Turning.{IsReady, TurnsGoOn, is_live}
use Rattle.durable_run.proofs.Passing.{IsGoing}
use Rattle.durable_run.proofs.passes.pass_over.Given as goal

-- An event may come still, the outside was told, each print took its share, and no other act called the sink. Less is left to do, or
-- each live thread below n has waited; where none has lived, none below n does, and nothing was changed.
abbrev pub invariant-threads : goal.invariant-threads
invariant-threads g l = record {
  ready : (o : Opening) (first : ℕ)
      → IsReady o first (g.C.Types.facts l.set) (g.H.Host.setting l.host) l.initial.run.heap
      l.initial.run.frames.items
      → IsReady o first (g.C.Types.facts l.set) (g.H.Host.setting l.host) l.run.heap l.run.frames.items;
  told : HasTold l.initial.run.heap.history.acts l.run.heap.history.acts
      (g.W.Watcher.seen l.initial.run.watcher)
      (g.W.Watcher.seen l.run.watcher) (g.S.Sink.taken l.initial.run.sink) (g.S.Sink.taken l.run.sink);
  shares : (o : Opening) (first : ℕ)
      → IsReady o first (g.C.Types.facts l.set) (g.H.Host.setting l.host) l.initial.run.heap
      l.initial.run.frames.items
      → PrintsShares o.launch (g.S.Sink.takes l.initial.run.sink) (g.S.Sink.takes l.run.sink)
      l.initial.run.heap.history.acts l.run.heap.history.acts;
  spares : (o : Opening) (first : ℕ)
      → IsReady o first (g.C.Types.facts l.set) (g.H.Host.setting l.host) l.initial.run.heap
      l.initial.run.frames.items
      → SparesSink g.S.Sink.taken o.launch None l.initial.run.sink l.run.sink
      l.initial.run.heap.history.acts l.run.heap.history.acts;
  cause : IsCaused None (g.S.Sink.faults l.initial.run.sink) (g.S.Sink.faults l.run.sink)
      (memory_of l.initial.run.heap.machine).faults (memory_of l.run.heap.machine).faults;
  turns : TurnsGoOn l.initial.run.turns l.run.turns;
  going : IsGoing (λ o first. IsReady o first (g.C.Types.facts l.set) (g.H.Host.setting l.host) l.initial.run.heap
      l.initial.run.frames.items) l.initial.run.heap l.run.heap l.n l.lived;
  dead : l.lived ≡ false → (u : ℕ) → u < l.n → is_live l.run.heap.machine.rest.threads u ≡ false;
  same : l.lived ≡ false → l.run.heap ≡ l.initial.run.heap;
  room : l.lived ≡ true → l.initial.run.heap.history.limit ≤ length l.initial.run.heap.history.acts → ⊥;
}

-- the threads that are left
abbrev pub decreases-threads : goal.decreases-threads
decreases-threads g l = 64 - l.n
