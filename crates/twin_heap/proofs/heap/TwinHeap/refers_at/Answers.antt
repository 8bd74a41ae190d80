use Rattle.std.proofs.Common.{◌∙◌, ap}
use Rattle.twin_forms.specs.Table.{entry, is_reference}
use Rattle.twin_forms.specs.Sights.{slot_kind}
use Rattle.twin_heap.proofs.Moving.{head_at}
use Rattle.twin_heap.proofs.heap.TwinHeap.refers_at.Goals as goal

pub returns : goal.returns
returns g c = record {
  refers = λ es n h ln at.
      let s = c.args.self.now.space in let m = c.args.self.now.memory in let k = c.args.self.now.marks in
      let head = head_at s m k es n c.args.object c.word.result h ln at.1 at.0 c.word.ensures.word in
      let parts = c.head_parts-shape.ensures.only (entry es n).shape (entry es n).slots head.0 head.1 in
      c.is_reference.ensures ∙ ap is_reference (c.kind.ensures ∙ ap (λ shape. slot_kind k.kinds shape c.args.index) parts.0);
}
