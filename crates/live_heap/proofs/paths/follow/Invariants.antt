use Rattle.std.proofs.Common.{◌≡◌, ◌+◌, drop}
use Rattle.live_heap.specs.Views.{followed_from}
use Rattle.live_heap.proofs.paths.follow.Given as goal

abbrev pub invariant-loop-slot : goal.invariant-loop-slot
invariant-loop-slot l = record {
  step : l.step ≡ l.slot-index + 1;
  left : followed_from l.heap l.step l.value (drop l.slot-index l.slots) ≡ followed_from l.heap 1 l.fn.start l.slots;
}
