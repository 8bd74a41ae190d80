use Rattle.std.proofs.Common.{◌∙◌, ap, arith}
use Rattle.forwarding.specs.Forwards.{claim_answer}
use Rattle.object_header.specs.States.{header_word}
use Rattle.object_header.specs.declared.state.State.TheVariants.{Claimed}
use Rattle.twin_forms.specs.Table.{entry, state_in}
use Rattle.twin_heap.proofs.Moving.{at_object, claims_now, claim_is, claim_long}
use Rattle.twin_heap.proofs.heap.TwinHeap.claim.Goals as goal

pub returns-clause-answer : goal.returns-clause-answer
returns-clause-answer g c = λ es n h ln x.
    c.claim.ensures.answer (state_in (entry es n)) (at_object c.args.self.now.space c.args.self.now.memory c.args.self.now.marks es n c.args.object h ln x).state

pub returns-clause-claimed : goal.returns-clause-claimed
returns-clause-claimed g c = λ es n h ln may.
    let s = c.args.self.now.space in let m = c.args.self.now.memory in let k = c.args.self.now.marks in
    let x = claims_now s m k es n c.args.object h ln may in
    let now = c.claim.ensures.answer (state_in (entry es n)) x.0 ∙ ap claim_answer x.1 in
    claim_is s c.claim.new.space m k es n c.args.object c.args.thread h ln may
    (omega (arith, c.number-number.ensures.below, c.number-number.ensures.same)) (c.claim.ensures.claimed now)
    c.claim.ensures.left

pub returns-clause-words : goal.returns-clause-words
returns-clause-words g c = claim_long c.claim.result c.args.self.now.space.words c.claim.new.space.words c.args.object
    (header_word (Claimed c.args.thread)) c.claim.ensures.claimed c.claim.ensures.same
