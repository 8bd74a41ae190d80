use Rattle.std.proofs.Common.{arith}
use Rattle.twin_heap.proofs.Moving.{line_is, seal_is}
use Rattle.twin_heap.proofs.heap.TwinHeap.seal.Goals as goal

pub returns-clause-sealed : goal.returns-clause-sealed
returns-clause-sealed g c = λ es n h ln may.
    let s = c.args.self.now.space in let m = c.args.self.now.memory in let k = c.args.self.now.marks in
    let first = line_is s m k es n c.args.object c.line_at-line.result h ln may.0 (omega (arith, may.1)) (omega (arith, may.1)) c.line_at-line.ensures.line in
    seal_is s c.set.new.self m k c.release.new.self es n c.args.object c.line_at-line.result c.state_word.result h ln may
    first c.state_word.ensures.word c.set.ensures.words c.set.ensures.left c.release.ensures.sized.1
    c.release.ensures.new
