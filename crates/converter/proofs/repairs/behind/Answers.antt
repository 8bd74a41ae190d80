use Rattle.std.proofs.Common.{◌≡◌, ◌-◌, inl, inr, sym, ◌∙◌, subst, arith}
use Rattle.twin_forms.specs.Table.{entry, Names}
use Rattle.twin_forms.specs.Sights.{sight}
use Rattle.twin_heap.proofs.Reading.{current_old, current_copy, current_not_null}
use Rattle.converter.proofs.Looked.{word_ref, none_some}
use Rattle.converter.proofs.Repaired.{even_not_behind, some_by, none_not}
use Rattle.converter.proofs.repairs.behind.Goals as goal

pub returns-then-word-eq0-clause-none : goal.returns-then-word-eq0-clause-none
returns-then-word-eq0-clause-none g c = λ none es m h lm names. even_not_behind (entry es m) c.args.word c.if-word-eq0.true names

pub returns-in_default-clause-none : goal.returns-in_default-clause-none
returns-in_default-clause-none g c = λ none es m h lm names.
    let r = word_ref (sight c.args.heap.now.space c.args.heap.now.memory c.args.heap.now.marks) es m c.args.word h lm names in
    absurd (none_some r.0 (c.in_default.ensures.again r.0 r.1 r.2))

pub resolved-requires : goal.resolved-requires
resolved-requires g c = record {
  object = let q = c.requires.reference in elim q.2 [
    | inl zero ↦ absurd (c.if-word-eq0.false (let z : c.args.word ≡ 0 = zero in omega (arith, z)))
    | inr x ↦ (q.0, x.0, q.1, x.1, subst (Names (entry q.0 x.0)) (sym c.in-Some.ensures.found.1) x.2)
  ];
}

pub claimed_by-requires : goal.claimed_by-requires
claimed_by-requires g c = record {
  object = let q = c.requires.reference in elim q.2 [
    | inl zero ↦ absurd (c.if-word-eq0.false (let z : c.args.word ≡ 0 = zero in omega (arith, z)))
    | inr x ↦ (q.0, x.0, q.1, x.1, subst (Names (entry q.0 x.0)) (sym c.in-Some.ensures.found.1) x.2)
  ];
}

pub returns-in-Volatile-clause-some : goal.returns-in-Volatile-clause-some
returns-in-Volatile-clause-some g c = some_by c.claimed_by.result _ (λ u eq. (
  (λ zero. c.if-word-eq0.false (let z : c.args.word ≡ 0 = zero in omega (arith, z))),
  (λ es m h lm names.
      let names1 = subst (Names (entry es m)) (sym c.in-Some.ensures.found.1) names in
      ((c.claimed_by.ensures.claimer es m h lm names1 u).0 eq, (current_old (entry es m) _ (sym c.in-Volatile.is ∙ c.resolved.ensures.current es m h lm names1)).0)),
))

pub returns-in-Volatile-clause-none : goal.returns-in-Volatile-clause-none
returns-in-Volatile-clause-none g c = λ none es m h lm names one.
    let names1 = subst (Names (entry es m)) (sym c.in-Some.ensures.found.1) names in
    let o = h.table.copying m lm one in
    none_not c.claimed_by.result ((entry es m).owner - 1) none ((c.claimed_by.ensures.claimer es m h lm names1 ((entry es m).owner - 1)).1 (lm, omega (arith, o)))

pub returns-in-Persistent-clause-none : goal.returns-in-Persistent-clause-none
returns-in-Persistent-clause-none g c = λ none es m h lm names one.
    let names1 = subst (Names (entry es m)) (sym c.in-Some.ensures.found.1) names in
    let now = c.resolved.ensures.current es m h lm names1 in
    elim c.in-Persistent.is [
      | inl x ↦ (let high = (current_copy (entry es m) x.0 (sym x.1 ∙ now)).0 in omega (arith, high, one))
      | inr x ↦ current_not_null (entry es m) (sym x ∙ now)
    ]
