use Rattle.std.proofs.Common.{◌≡◌, drop}
use Rattle.live_heap.specs.Seen.{with_durable}
use Rattle.live_heap.proofs.durable.mark.Given as goal

abbrev pub invariant-loop-object : goal.invariant-loop-object
invariant-loop-object l = with_durable l.durable.items (drop l.object-index l.named) ≡ with_durable l.fn.durable.items l.named
