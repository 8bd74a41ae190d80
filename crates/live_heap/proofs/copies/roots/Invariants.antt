use Rattle.std.proofs.Common.{◌≡◌, ◌++◌, drop}
use Rattle.live_heap.proofs.copies.roots.Given as goal

abbrev pub invariant-loop-each : goal.invariant-loop-each
invariant-loop-each l = l.copies.items ++ drop l.each-index l.roots ≡ l.roots
