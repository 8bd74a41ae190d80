use Rattle.std.proofs.Common.{inl, inr, sym, subst}
use Rattle.twin_forms.specs.Table.{entry, Names}
use Rattle.twin_forms.specs.Sights.{sight}
use Rattle.converter.proofs.Looked.{word_ref, no_name, none_some}
use Rattle.converter.proofs.looks.asked_of_word.Goals as goal

pub returns-then-word-eq0-clause-asks : goal.returns-then-word-eq0-clause-asks
returns-then-word-eq0-clause-asks g c = λ es m h lm names. absurd (no_name (entry es m) (subst (Names (entry es m)) c.if-word-eq0.true names))

pub returns-in_default-clause-asks : goal.returns-in_default-clause-asks
returns-in_default-clause-asks g c = λ es m h lm names.
    let r = word_ref (sight c.args.heap.now.space c.args.heap.now.memory c.args.heap.now.marks) es m c.args.word h lm names in
    absurd (none_some r.0 (c.in_default.ensures.again r.0 r.1 r.2))

pub asked_by-requires : goal.asked_by-requires
asked_by-requires g c = record {
  object = let q = c.requires.reference in elim q.2 [
    | inl zero ↦ absurd (c.if-word-eq0.false zero)
    | inr x ↦ (q.0, x.0, q.1, x.1, subst (Names (entry q.0 x.0)) (sym c.in-Some.ensures.found.1) x.2)
  ];
}

pub returns-clause-asks : goal.returns-clause-asks
returns-clause-asks g c = λ es m h lm names. c.asked_by.ensures.asks es m h lm (subst (Names (entry es m)) (sym c.in-Some.ensures.found.1) names)
