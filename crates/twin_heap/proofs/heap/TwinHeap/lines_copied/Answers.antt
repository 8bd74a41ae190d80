use Rattle.std.proofs.Common.{◌∙◌, ap, arith}
use Rattle.std.specs.Prelude.{slice_index}
use Rattle.twin_heap.proofs.Moving.{line_is}
use Rattle.twin_heap.proofs.heap.TwinHeap.lines_copied.Goals as goal

pub returns : goal.returns
returns g c = record {
  copied = λ es n h ln may.
      let s = c.args.self.now.space in let m = c.args.self.now.memory in let k = c.args.self.now.marks in
      let first = line_is s m k es n c.args.object c.line_at.result h ln may.0 (omega (arith, may.1)) (omega (arith, may.1)) c.line_at.ensures.line in
      c.copied.ensures ∙ ap (λ l. slice_index k.copies l) first ∙ (h.sits n ln).count may.1;
}
