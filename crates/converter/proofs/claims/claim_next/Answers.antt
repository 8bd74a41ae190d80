use Rattle.std.proofs.Common.{◌≡◌, ◌≤◌, ◌-◌, ◌+◌, ◌/◌, inl, inr, refl, sym, ◌∙◌, ap, subst, arith}
use Rattle.std.proofs.lemmas.Bool.{false≢true}
use Rattle.twin_forms.specs.Table.{entry, lines_of}
use Rattle.twin_forms.specs.Sights.{Twin}
use Rattle.twin_forms.proofs.Led.{below_or_not}
use Rattle.convert_words.specs.declared.step.ConvertStep.TheVariants as step
use Rattle.convert_words.specs.Converting.{Converts}
use Rattle.convert_words.specs.Scenes.{Scene, scene}
use Rattle.converter.proofs.Doing.{claim_is, takable, full_is}
use Rattle.converter.proofs.claims.claim_next.Goals as goal

pub slots_at-requires : goal.slots_at-requires
slots_at-requires g c = let q = c.requires.agrees in let w = q.3 in
    record { object = (q.1, w.m, q.2.lies, w.there, ((let o = w.asked.ordinary in omega (arith, o)), w.at)) }

pub returns-in-None-clause-converts : goal.returns-in-None-clause-converts
returns-in-None-clause-converts g c = λ keys es a w.
    let h = c.args.heap.now in
    let s : Scene = scene h.space h.memory h.marks c.args.queue.now c.args.space.now.free keys in
    let o = w.asked.ordinary in
    let slots = c.slots_at.ensures.slots es w.m a.lies w.there (omega (arith, o), w.at) in
    let need : c.count_of-lines.result ≡ lines_of (entry es w.m) = c.count_of-lines.ensures.count ∙ ap (λ x. x / 8 + 1) slots in
    let same = c.in-None.ensures.same refl in
    let lines = c.requires.lines in
    let left : c.left.result ≡ h.memory.size - c.args.space.now.free = c.left.ensures.left ∙ ap (λ y. y.lines - y.free) same ∙ ap (λ x. x - c.args.space.now.free) lines in
    let few = c.in-None.ensures.none.0 refl in
    let x = full_is s es c.args.t c.args.object c.count_of-lines.result c.left.result a w need left (omega (arith, few, left, lines)) in
    (x.0, subst (λ f. Converts c.args.t (step.Full c.count_of-lines.result c.left.result) s (scene h.space h.memory h.marks c.args.queue.now f keys) es x.0) (sym (ap (λ y. y.free) same)) x.1)

pub take_in-requires : goal.take_in-requires
take_in-requires g c =
    let h = c.args.heap.now in
    let q = c.requires.agrees in let w = q.3 in
    let s : Scene = scene h.space h.memory h.marks c.args.queue.now c.args.space.now.free q.0 in
    let o = w.asked.ordinary in
    let slots = c.slots_at.ensures.slots q.1 w.m q.2.lies w.there (omega (arith, o), w.at) in
    let need : c.count_of-lines.result ≡ lines_of (entry q.1 w.m) = c.count_of-lines.ensures.count ∙ ap (λ x. x / 8 + 1) slots in
    let lines = c.requires.lines in
    let within = c.requires.within in
    let fits : c.count_of-lines.result ≤ h.memory.size - c.args.space.now.free = elim (below_or_not (c.args.space.now.lines - c.args.space.now.free) c.count_of-lines.result) [
      | inl lt ↦ absurd (false≢true (sym (c.in-Some.ensures.none.1 lt)))
      | inr le ↦ omega (arith, le, lines)
    ] in
    record { takable = (q.0, q.1, w.m, takable s q.1 c.args.t c.args.object c.in-Some.line c.count_of-lines.result q.2 w c.in-Some.ensures.first need fits (omega (arith, within, lines))) }

pub returns-in-Some-clause-converts : goal.returns-in-Some-clause-converts
returns-in-Some-clause-converts g c = λ keys es a w.
    let h = c.args.heap.now in
    let s : Scene = scene h.space h.memory h.marks c.args.queue.now c.args.space.now.free keys in
    let o = w.asked.ordinary in
    let slots = c.slots_at.ensures.slots es w.m a.lies w.there (omega (arith, o), w.at) in
    let need : c.count_of-lines.result ≡ lines_of (entry es w.m) = c.count_of-lines.ensures.count ∙ ap (λ x. x / 8 + 1) slots in
    let lines = c.requires.lines in
    let within = c.requires.within in
    let fits : c.count_of-lines.result ≤ h.memory.size - c.args.space.now.free = elim (below_or_not (c.args.space.now.lines - c.args.space.now.free) c.count_of-lines.result) [
      | inl lt ↦ absurd (false≢true (sym (c.in-Some.ensures.none.1 lt)))
      | inr le ↦ omega (arith, le, lines)
    ] in
    let k = takable s es c.args.t c.args.object c.in-Some.line c.count_of-lines.result a w c.in-Some.ensures.first need fits (omega (arith, within, lines)) in
    let new : Twin = record { space = c.take_in.new.heap.space; memory = c.take_in.new.heap.memory; marks = c.take_in.new.heap.marks } in
    claim_is s new c.take_in.new.queue c.take.new.self.free es c.args.t c.args.object c.in-Some.line c.count_of-lines.result a w c.take_in.ensures.thread c.in-Some.ensures.first need fits
    (c.take_in.ensures.claimed keys es w.m k) c.take_in.ensures.memory c.take_in.ensures.kinds c.take_in.ensures.left c.take_in.ensures.queue (c.in-Some.ensures.free refl)

pub returns-in-Some-clause-within : goal.returns-in-Some-clause-within
returns-in-Some-clause-within g c =
    let free = c.in-Some.ensures.free refl in
    let lines = c.take.ensures.lines in
    let within = c.requires.within in
    elim (below_or_not (c.args.space.now.lines - c.args.space.now.free) c.count_of-lines.result) [
      | inl lt ↦ absurd (false≢true (sym (c.in-Some.ensures.none.1 lt)))
      | inr le ↦ omega (arith, le, lines, free, within)
    ]
