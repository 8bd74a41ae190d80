use Rattle.std.proofs.Common.{◌-◌, refl, arith}
use Rattle.twin_forms.specs.Table.{entry}
use Rattle.twin_heap.proofs.Moving.{line_is, copying_at, forward_is}
use Rattle.twin_heap.proofs.heap.TwinHeap.forward.Goals as goal

pub returns-clause-forwarded : goal.returns-clause-forwarded
returns-clause-forwarded g c = λ es n h ln may.
    let s = c.args.self.now.space in let m = c.args.self.now.memory in let k = c.args.self.now.marks in
    let first = line_is s m k es n c.args.object c.line_at-line.result h ln may.0 (omega (arith, may.1)) (omega (arith, may.1)) c.line_at-line.ensures.line in
    forward_is s c.set_forward.new.space m k es n c.args.object c.line_at-line.result ((entry es n).owner - 1) h ln may first refl
    (c.set_forward.ensures.forwarded ((entry es n).owner - 1) (copying_at s m k es n c.args.object c.line_at-line.result h ln may.0 may.1 first)) c.set_forward.ensures.left
