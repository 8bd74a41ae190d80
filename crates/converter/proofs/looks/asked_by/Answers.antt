use Rattle.std.proofs.Common.{sym, ◌∙◌}
use Rattle.twin_forms.specs.Sights.{sight}
use Rattle.converter.proofs.Looked.{asks_claimed, asks_free, none_some}
use Rattle.converter.proofs.looks.asked_by.Goals as goal

pub returns-in-Some : goal.returns-in-Some
returns-in-Some g c = record {
  asks = λ es m h lm names.
      asks_claimed es m c.args.t c.in-Some.u c.by_claimer.result ((c.claimed_by.ensures.claimer es m h lm names c.in-Some.u).0 c.in-Some.is) c.by_claimer.ensures.own c.by_claimer.ensures.other;
}

pub returns-in-None : goal.returns-in-None
returns-in-None g c = record {
  asks = λ es m h lm names.
      let p = c.in_p.ensures.durable es m h lm names in
      asks_free (sight c.args.heap.now.space c.args.heap.now.memory c.args.heap.now.marks) es m c.args.t c.args.r c.if_free.result c.in_p.result h lm names
      (λ u x. none_some u (sym c.in-None.is ∙ (c.claimed_by.ensures.claimer es m h lm names u).1 x)) p.0 p.1 c.if_free.ensures.nothing c.if_free.ensures.claim;
}
