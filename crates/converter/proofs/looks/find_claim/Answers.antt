use Rattle.std.proofs.Common.{◌≤◌, sym, ◌∙◌, subst, arith}
use Rattle.twin_forms.specs.Sights.{sight}
use Rattle.converter.specs.Looking.{Asks, IsTaken, Refers}
use Rattle.converter.proofs.Looked.{old_less, claim_asks, taken_by, met_below}
use Rattle.converter.proofs.looks.find_claim.Goals as goal

pub asked_at-requires : goal.asked_at-requires
asked_at-requires g c = let v = sight c.args.heap.now.space c.args.heap.now.memory c.args.heap.now.marks in
    let q = c.requires.object in record { object = (q.0, q.1, old_less v c.args.object c.args.to c.loop-k.k q.0 q.1 (omega arith) q.2) }

pub returns-in-ToClaim-clause-some : goal.returns-in-ToClaim-clause-some
returns-in-ToClaim-clause-some g c = λ es n o.
    let v = sight c.args.heap.now.space c.args.heap.now.memory c.args.heap.now.marks in
    let less = old_less v c.args.object c.args.to c.loop-k.k es n (omega arith) o in
    let some = c.asked_at.ensures.some (λ e. claim_asks c.in-ToClaim.at (sym c.in-ToClaim.is ∙ e)) es n less in
    record {
      k = c.loop-k.k;
      m = some.0;
      begin = omega arith;
      below = omega arith;
      refers_to = some.1;
      asked = subst (λ a. Asks a c.args.t es some.0) c.in-ToClaim.is (c.asked_at.ensures.asks es n some.0 less some.1);
      first = λ j x lo hi r. c.loop-k.invariant es n j x o lo hi r;
    }

pub loop-k-preserved : goal.loop-k-preserved
loop-k-preserved g c = λ es n j m o lo hi r.
    let v = sight c.args.heap.now.space c.args.heap.now.memory c.args.heap.now.marks in
    met_below c.loop-k.k (λ x. c.args.from ≤ x → Refers v es n x m → IsTaken es m)
    (λ x lt l z. c.loop-k.invariant es n x m o l lt z)
    (λ l z. taken_by c.asked_at.result c.args.t es m c.in_default.not-ToClaim
    (c.asked_at.ensures.asks es n m (old_less v c.args.object c.args.to c.loop-k.k es n (omega arith) o) z))
    j hi lo r

pub returns-clause-none : goal.returns-clause-none
returns-clause-none g c = λ none es n k m o lo hi r. c.loop-k.invariant es n k m o lo (omega (arith, hi)) r
