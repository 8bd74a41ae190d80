use Rattle.std.proofs.Common.{◌≡◌, drop}
use Rattle.run_history.specs.Knowing.{is_root}
use Rattle.live_heap.proofs.durable.is_root.Given as goal

abbrev pub invariant-loop-root : goal.invariant-loop-root
invariant-loop-root l = is_root (drop l.root-index l.roots) l.field ≡ is_root l.roots l.field
