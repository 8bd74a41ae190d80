use Rattle.std.proofs.Common.{◌≡◌, ◌≤◌, ◌-◌, ◌+◌, ◌/◌, inl, inr, refl, sym, ◌∙◌, ap, subst, arith}
use Rattle.std.proofs.lemmas.Bool.{false≢true}
use Rattle.twin_forms.specs.Table.{entry, lines_of}
use Rattle.twin_forms.specs.Sights.{Twin}
use Rattle.twin_forms.proofs.Led.{below_or_not}
use Rattle.convert_words.specs.Scenes.{Scene, scene}
use Rattle.converter.specs.declared.begin.Begun.TheVariants as begun
use Rattle.converter.specs.Beginning.{Begins}
use Rattle.converter.proofs.Starting.{begin_takable, begin_claims, begin_full}
use Rattle.converter.proofs.begin.begin_claim.Goals as goal

pub slots_at-requires : goal.slots_at-requires
slots_at-requires g c = let q = c.requires.agrees in
    record { object = (q.1, q.2, q.3.lies, q.4, ((let o = q.6 in omega (arith, o)), q.5)) }

pub returns-in-None-clause-begins : goal.returns-in-None-clause-begins
returns-in-None-clause-begins g c = λ keys es m a lm index young nobody.
    let h = c.args.heap.now in
    let s : Scene = scene h.space h.memory h.marks c.args.queue.now c.args.space.now.free keys in
    let slots = c.slots_at.ensures.slots es m a.lies lm (omega (arith, young), index) in
    let need : c.count_of-lines.result ≡ lines_of (entry es m) = c.count_of-lines.ensures.count ∙ ap (λ x. x / 8 + 1) slots in
    let same = c.in-None.ensures.same refl in
    let lines = c.requires.lines in
    let left : c.left.result ≡ h.memory.size - c.args.space.now.free = c.left.ensures.left ∙ ap (λ y. y.lines - y.free) same ∙ ap (λ x. x - c.args.space.now.free) lines in
    let few = c.in-None.ensures.none.0 refl in
    let x = begin_full s es c.args.t c.count_of-lines.result c.left.result m a young nobody need left (omega (arith, few, left, lines)) in
    (x.0, subst (λ f. Begins c.args.t m (begun.Full c.count_of-lines.result c.left.result) s (scene h.space h.memory h.marks c.args.queue.now f keys) es x.0) (sym (ap (λ y. y.free) same)) x.1)

pub take_in-requires : goal.take_in-requires
take_in-requires g c =
    let h = c.args.heap.now in
    let q = c.requires.agrees in
    let s : Scene = scene h.space h.memory h.marks c.args.queue.now c.args.space.now.free q.0 in
    let young = q.6 in
    let slots = c.slots_at.ensures.slots q.1 q.2 q.3.lies q.4 (omega (arith, young), q.5) in
    let need : c.count_of-lines.result ≡ lines_of (entry q.1 q.2) = c.count_of-lines.ensures.count ∙ ap (λ x. x / 8 + 1) slots in
    let lines = c.requires.lines in
    let within = c.requires.within in
    let fits : c.count_of-lines.result ≤ h.memory.size - c.args.space.now.free = elim (below_or_not (c.args.space.now.lines - c.args.space.now.free) c.count_of-lines.result) [
      | inl lt ↦ absurd (false≢true (sym (c.in-Some.ensures.none.1 lt)))
      | inr le ↦ omega (arith, le, lines)
    ] in
    record {
      takable = (
        q.0,
        q.1,
        q.2,
        begin_takable s c.go_to.new.queue q.1 c.args.t c.args.object c.in-Some.line
            c.count_of-lines.result q.2 q.3 c.requires.empty c.go_to.ensures.goes c.in-Some.ensures.first q.4 q.5 q.6 q.7 need
            fits (omega (arith, within, lines)),
      );
    }

pub returns-in-Some-clause-begins : goal.returns-in-Some-clause-begins
returns-in-Some-clause-begins g c = λ keys es m a lm index young nobody.
    let h = c.args.heap.now in
    let s : Scene = scene h.space h.memory h.marks c.args.queue.now c.args.space.now.free keys in
    let slots = c.slots_at.ensures.slots es m a.lies lm (omega (arith, young), index) in
    let need : c.count_of-lines.result ≡ lines_of (entry es m) = c.count_of-lines.ensures.count ∙ ap (λ x. x / 8 + 1) slots in
    let lines = c.requires.lines in
    let within = c.requires.within in
    let fits : c.count_of-lines.result ≤ h.memory.size - c.args.space.now.free = elim (below_or_not (c.args.space.now.lines - c.args.space.now.free) c.count_of-lines.result) [
      | inl lt ↦ absurd (false≢true (sym (c.in-Some.ensures.none.1 lt)))
      | inr le ↦ omega (arith, le, lines)
    ] in
    let k = begin_takable s c.go_to.new.queue es c.args.t c.args.object c.in-Some.line c.count_of-lines.result m a
    c.requires.empty c.go_to.ensures.goes c.in-Some.ensures.first lm index young nobody need fits
    (omega (arith, within, lines)) in
    let n = c.take_in.new.heap in
    let new : Twin = record { space = n.space; memory = n.memory; marks = n.marks } in
    begin_claims s new c.go_to.new.queue c.take_in.new.queue c.take.new.self.free es c.args.t c.args.object c.in-Some.line
    c.count_of-lines.result m a c.requires.empty c.go_to.ensures.goes c.go_to.ensures.whole c.take_in.ensures.thread
    c.in-Some.ensures.first lm index young nobody need fits (c.take_in.ensures.claimed keys es m k)
    c.take_in.ensures.memory c.take_in.ensures.kinds c.take_in.ensures.left c.take_in.ensures.queue
    (c.in-Some.ensures.free refl)

pub returns-in-Some-clause-within : goal.returns-in-Some-clause-within
returns-in-Some-clause-within g c =
    let free = c.in-Some.ensures.free refl in
    let lines = c.take.ensures.lines in
    let within = c.requires.within in
    elim (below_or_not (c.args.space.now.lines - c.args.space.now.free) c.count_of-lines.result) [
      | inl lt ↦ absurd (false≢true (sym (c.in-Some.ensures.none.1 lt)))
      | inr le ↦ omega (arith, le, lines, free, within)
    ]
