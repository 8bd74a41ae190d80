use Rattle.std.proofs.Common.{◌∙◌, ap}
use Rattle.twin_forms.specs.Sights.{slot_kind}
use Rattle.twin_heap.proofs.heap.TwinHeap.kind_at.Goals as goal

pub returns : goal.returns
returns g c = let s = c.args.self.now.space in let m = c.args.self.now.memory in let k = c.args.self.now.marks in
    record { kind = λ es n h ln names. c.kind.ensures ∙ ap (λ shape. slot_kind k.kinds shape c.args.index) (c.shape_of.ensures.shape es n h ln names) }
