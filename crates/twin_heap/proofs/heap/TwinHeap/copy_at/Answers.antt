use Rattle.std.proofs.Common.{◌≡◌, ◌+◌, ◌-◌, sym, ◌∙◌, ap, arith}
use Rattle.object_header.specs.States.{header_word}
use Rattle.object_header.specs.declared.state.State.TheVariants.{Copying}
use Rattle.twin_forms.specs.Table.{entry, state_in}
use Rattle.twin_forms.proofs.States.{from_claimed}
use Rattle.twin_heap.proofs.Moving.{at_object, place_is}
use Rattle.twin_heap.proofs.heap.TwinHeap.copy_at.Goals as goal

pub returns-in-Claimed-clause-placed : goal.returns-in-Claimed-clause-placed
returns-in-Claimed-clause-placed g c = λ es n h ln may.
    let s = c.args.self.now.space in let m = c.args.self.now.memory in let k = c.args.self.now.marks in
    let t = at_object s m k es n c.args.object h ln (omega (arith, may.young), may.object) in
    let st : c.state_at.result ≡ state_in (entry es n) = c.state_at.ensures.again (state_in (entry es n)) t.state in
    let x = from_claimed (entry es n) c.in-Claimed.thread t.young (sym st ∙ c.in-Claimed.is) in
    let o : c.number.result + 1 ≡ (entry es n).owner = omega (arith, x.1, c.number.ensures.same) in
    let less : c.in-Claimed.thread ≡ c.number.result + 1 - 1 = omega (arith, c.number.ensures.same) in
    place_is s c.set.new.self m k c.begin.new.self es n c.args.object c.args.line c.word-number.result (c.number.result + 1) c.state_word.result h ln may
    (c.state_word.ensures.word ∙ ap (λ u. header_word (Copying u c.args.line)) less) o c.set.ensures.words
    c.set.ensures.left c.word-number.ensures.word c.begin.ensures.sized.0 c.begin.ensures.sized.1 c.begin.ensures.new
