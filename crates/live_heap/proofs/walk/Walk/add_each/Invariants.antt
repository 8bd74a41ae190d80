use Rattle.std.proofs.Common.{◌≡◌, drop}
use Rattle.graph_model.specs.Canon.{with_new}
use Rattle.live_heap.proofs.walk.Walk.add_each.Given as goal

abbrev pub invariant-loop-value : goal.invariant-loop-value
invariant-loop-value l = record {
  added : with_new l.self.numbers (drop l.value-index l.values) ≡ with_new l.fn.self.numbers l.values;
  objects : l.self.objects ≡ l.fn.self.objects;
}
