use Rattle.std.proofs.Common.{◌≡◌, ◌+◌, ◌%◌, inl, inr, true, sym, ◌∙◌, ap, subst, arith}
use Rattle.std.proofs.lemmas.Bool.{false≢true}
use Rattle.line_memory.specs.Memory.{shown}
use Rattle.twin_forms.specs.Table.{entry, Names, IsRef, refers}
use Rattle.twin_forms.specs.Sights.{sight}
use Rattle.converter.proofs.Repaired.{some_on, moved_word}
use Rattle.converter.proofs.repairs.behind_at.Goals as goal

pub refers_at-requires : goal.refers_at-requires
refers_at-requires g c = let q = c.requires.object in let o = q.2 in
    record { object = (q.0, q.1, o.lies, o.there, ((let y = o.moved in omega (arith, y)), o.at)) }

pub returns-then-not-refers_at-clause-none : goal.returns-then-not-refers_at-clause-none
returns-then-not-refers_at-clause-none g c = λ none es n m o r.
    let y = o.moved in
    absurd (false≢true (sym c.if-not-refers_at.true ∙ c.refers_at.ensures.refers es n o.lies o.there (omega (arith, y), o.at) ∙ r.reference))

pub behind-requires : goal.behind-requires
behind-requires g c =
    let h = c.args.heap.now in
    let at : c.from.result ≡ c.args.k = omega arith in
    let v = sight h.space h.memory h.marks in
    let q = c.requires.object in let o = q.2 in
    let y = o.moved in
    let r : refers v (entry q.0 q.1) c.args.k ≡ true = sym (c.refers_at.ensures.refers q.0 q.1 o.lies o.there (omega (arith, y), o.at)) ∙ c.if-not-refers_at.false in
    record {
      reference = (
        q.0,
        o.lies,
        subst (IsRef q.0)
            (moved_word h.space h.memory h.marks c.args.object c.args.line c.args.k q.0 q.1 o ∙ ap
            (λ x. shown h.memory c.args.line ((x + 1) % 8)) (sym at) ∙ sym c.load.ensures)
            (o.lies.refs q.1 c.args.k o.there r o.slot),
      );
    }

pub returns-clause-some : goal.returns-clause-some
returns-clause-some g c =
    let h = c.args.heap.now in
    let at : c.from.result ≡ c.args.k = omega arith in
    let v = sight h.space h.memory h.marks in
    some_on c.behind.result _ _ c.behind.ensures.some (λ u p es n o.
    let y = o.moved in
    let r : refers v (entry es n) c.args.k ≡ true = sym (c.refers_at.ensures.refers es n o.lies o.there (omega (arith, y), o.at)) ∙ c.if-not-refers_at.false in
    let word = moved_word h.space h.memory h.marks c.args.object c.args.line c.args.k es n o ∙ ap (λ x. shown h.memory c.args.line ((x + 1) % 8)) (sym at) ∙ sym c.load.ensures in
    elim (o.lies.refs n c.args.k o.there r o.slot) [
      | inl zero ↦ absurd (p.0 (sym word ∙ zero))
      | inr x ↦ (let z = p.1 es x.0 o.lies x.1 (subst (Names (entry es x.0)) word x.2) in (x.0, record { reference = r; there = x.1; names = x.2 }, z.0, z.1))
    ])

pub returns-clause-none : goal.returns-clause-none
returns-clause-none g c = λ none es n m o r.
    let h = c.args.heap.now in
    let at : c.from.result ≡ c.args.k = omega arith in
    let word = moved_word h.space h.memory h.marks c.args.object c.args.line c.args.k es n o ∙ ap (λ x. shown h.memory c.args.line ((x + 1) % 8)) (sym at) ∙ sym c.load.ensures in
    c.behind.ensures.none none es m o.lies r.there (subst (Names (entry es m)) word r.names)
