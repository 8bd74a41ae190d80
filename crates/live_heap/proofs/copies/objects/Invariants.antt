use Rattle.std.proofs.Common.{◌≡◌, ◌++◌, drop}
use Rattle.live_heap.proofs.copies.objects.Given as goal

abbrev pub invariant-loop-each : goal.invariant-loop-each
invariant-loop-each l = l.copies.items ++ drop l.each-index l.objects ≡ l.objects
