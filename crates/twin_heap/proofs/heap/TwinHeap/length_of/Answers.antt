use Rattle.std.proofs.Common.{sym, arith}
use Rattle.twin_forms.specs.Table.{entry}
use Rattle.twin_heap.proofs.heap.TwinHeap.length_of.Goals as goal

pub returns : goal.returns
returns g c = record {
  length = λ es n h ln names.
      let f = h.table.shape_in n ln in
      let few = h.table.few_shapes in
      (c.head_parts.ensures.only (entry es n).shape (entry es n).slots (omega (arith, f, few)) (sym (c.head_of.ensures.head es n h ln names))).1;
}
