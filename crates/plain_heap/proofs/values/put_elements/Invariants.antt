use Rattle.std.proofs.Common.{◌≡◌, replicate, length, vec_capacity}
use Rattle.graph_model.specs.Heaps.{default_of}
use Rattle.plain_heap.proofs.values.put_elements.Given as goal

abbrev pub invariant-loop-i : goal.invariant-loop-i
invariant-loop-i l = record {
  items : l.values.items ≡ replicate l.i (default_of l.kind);
  counted : length l.values.items ≡ l.i;
  room : vec_capacity l.values ≡ vec_capacity l.fn.values;
}
