use Rattle.std.proofs.Common.{◌≡◌}
use Rattle.twin_heap.proofs.Reading.{same_is}
use Rattle.twin_heap.proofs.heap.TwinHeap.same_object.Goals as goal

pub returns : goal.returns
returns g c = record {
  same = λ es m n h lm ln left right.
      let a : c.number_of.result ≡ m = c.number_of.ensures.number es m h lm left in
      let b : c.number_of-2.result ≡ n = c.number_of-2.ensures.number es n h ln right in
      same_is c.number_of.result c.number_of-2.result m n a b;
}
