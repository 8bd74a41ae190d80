use Rattle.std.proofs.Common.{◌≡◌, ◌+◌, inl, inr, true, sym, ◌∙◌, subst, arith}
use Rattle.std.proofs.lemmas.Bool.{false≢true}
use Rattle.twin_forms.specs.Table.{entry, Names, IsRef, refers}
use Rattle.twin_forms.specs.Sights.{sight}
use Rattle.converter.proofs.Looked.{old_word}
use Rattle.converter.proofs.looks.asked_at.Goals as goal

pub refers_at-requires : goal.refers_at-requires
refers_at-requires g c = let q = c.requires.object in let o = q.2 in
    record { object = (q.0, q.1, o.lies, o.there, ((let y = o.young in omega (arith, y)), o.at)) }

pub word-requires : goal.word-requires
word-requires g c = let q = c.requires.object in let o = q.2 in
    record { taken = (let y = o.young in let b = o.lies.table.old_in q.1 o.there (omega (arith, y)) in let l = o.long in let a = o.at in omega (arith, b, l, a)) }

pub asked_of_word-requires : goal.asked_of_word-requires
asked_of_word-requires g c =
    let v = sight c.args.heap.now.space c.args.heap.now.memory c.args.heap.now.marks in
    let q = c.requires.object in let o = q.2 in
    let y = o.young in
    let r : refers v (entry q.0 q.1) c.args.k ≡ true = sym (c.refers_at.ensures.refers q.0 q.1 o.lies o.there (omega (arith, y), o.at)) ∙ c.if-refers_at.true in
    let ref = o.lies.refs q.1 c.args.k o.there r (let l = o.long in omega (arith, l)) in
    record { reference = (q.0, o.lies, subst (IsRef q.0) (old_word v c.args.object (c.args.k + 1) c.args.k q.0 q.1 o ∙ sym c.word.ensures.word) ref) }

pub returns-then-refers_at-clause-asks : goal.returns-then-refers_at-clause-asks
returns-then-refers_at-clause-asks g c = λ es n m o r.
    let v = sight c.args.heap.now.space c.args.heap.now.memory c.args.heap.now.marks in
    c.asked_of_word.ensures.asks es m o.lies r.there (subst (Names (entry es m)) (old_word v c.args.object (c.args.k + 1) c.args.k es n o ∙ sym c.word.ensures.word) r.names)

pub returns-then-refers_at-clause-some : goal.returns-then-refers_at-clause-some
returns-then-refers_at-clause-some g c = λ asks es n o.
    let v = sight c.args.heap.now.space c.args.heap.now.memory c.args.heap.now.marks in
    let y = o.young in
    let r : refers v (entry es n) c.args.k ≡ true = sym (c.refers_at.ensures.refers es n o.lies o.there (omega (arith, y), o.at)) ∙ c.if-refers_at.true in
    let word = old_word v c.args.object (c.args.k + 1) c.args.k es n o in
    elim (o.lies.refs n c.args.k o.there r (let l = o.long in omega (arith, l))) [
      | inl zero ↦ absurd (c.asked_of_word.ensures.some asks (c.word.ensures.word ∙ sym word ∙ zero))
      | inr x ↦ (x.0, record { reference = r; there = x.1; names = x.2 })
    ]

pub returns-else-refers_at-clause-asks : goal.returns-else-refers_at-clause-asks
returns-else-refers_at-clause-asks g c = λ es n m o r.
    let y = o.young in
    absurd (false≢true (sym c.if-refers_at.false ∙ c.refers_at.ensures.refers es n o.lies o.there (omega (arith, y), o.at) ∙ r.reference))
