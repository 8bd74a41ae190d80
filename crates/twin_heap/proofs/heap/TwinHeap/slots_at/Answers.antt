use Rattle.twin_forms.specs.Table.{entry}
use Rattle.twin_heap.proofs.Moving.{head_at}
use Rattle.twin_heap.proofs.heap.TwinHeap.slots_at.Goals as goal

pub returns : goal.returns
returns g c = record {
  slots = λ es n h ln at.
      let s = c.args.self.now.space in let m = c.args.self.now.memory in let k = c.args.self.now.marks in
      let head = head_at s m k es n c.args.object c.word.result h ln at.1 at.0 c.word.ensures.word in
      (c.head_parts.ensures.only (entry es n).shape (entry es n).slots head.0 head.1).1;
}
