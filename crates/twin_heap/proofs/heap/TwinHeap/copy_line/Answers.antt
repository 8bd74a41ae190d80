use Rattle.std.proofs.Common.{◌≡◌, ◌∙◌, ap, arith}
use Rattle.std.specs.Prelude.{slice_index}
use Rattle.twin_forms.specs.Table.{entry}
use Rattle.twin_heap.proofs.Moving.{line_is, copy_is, copy_filled}
use Rattle.twin_heap.proofs.heap.TwinHeap.copy_line.Goals as goal

pub returns-clause-copied : goal.returns-clause-copied
returns-clause-copied g c = λ es n h ln may.
    let s = c.args.self.now.space in let m = c.args.self.now.memory in let k = c.args.self.now.marks in
    let first = line_is s m k es n c.args.object c.line_at-line.result h ln may.0 (omega (arith, may.1)) (omega (arith, may.1)) c.line_at-line.ensures.line in
    copy_is s m c.copy_words.new.memory k c.set_copied.new.self es n c.args.object c.line_at-line.result
    c.copied-done.result c.word-head.result h ln may first c.copied-done.ensures c.word-head.ensures.word
    c.copy_words.ensures.filled c.set_copied.ensures.sized.0 c.set_copied.ensures.new

pub returns-clause-answer : goal.returns-clause-answer
returns-clause-answer g c = λ es n h ln may.
    let s = c.args.self.now.space in let m = c.args.self.now.memory in let k = c.args.self.now.marks in
    let first = line_is s m k es n c.args.object c.line_at-line.result h ln may.0 (omega (arith, may.1)) (omega (arith, may.1)) c.line_at-line.ensures.line in
    let count : c.copied-done.result ≡ (entry es n).copied = c.copied-done.ensures ∙ ap (λ l. slice_index k.copies l) first ∙ (h.sits n ln).count may.1 in
    omega (arith, first, count)

pub returns-clause-filled : goal.returns-clause-filled
returns-clause-filled g c = λ es n h ln may.
    let s = c.args.self.now.space in let m = c.args.self.now.memory in let k = c.args.self.now.marks in
    let first = line_is s m k es n c.args.object c.line_at-line.result h ln may.0 (omega (arith, may.1)) (omega (arith, may.1)) c.line_at-line.ensures.line in
    copy_filled s m c.copy_words.new.memory k es n c.args.object c.line_at-line.result c.copied-done.result c.word-head.result h ln may first c.copied-done.ensures c.word-head.ensures.word
    c.copy_words.ensures.filled
