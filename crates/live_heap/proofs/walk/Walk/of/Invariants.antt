use Rattle.std.proofs.Common.{◌≡◌, ◌-◌, ◌≤◌, length}
use Rattle.graph_model.specs.Canon.{found_after}
use Rattle.live_heap.proofs.walk.Walk.of.Given as goal

abbrev pub invariant-loop-object : goal.invariant-loop-object
invariant-loop-object l = record {
  found : l.walk.numbers ≡ found_after l.heap l.start l.next;
  objects : l.walk.objects ≡ length l.heap.objects;
  within : l.next ≤ length l.heap.objects;
}

abbrev pub decreases-loop-object : goal.decreases-loop-object
decreases-loop-object l = length l.heap.objects - l.next
