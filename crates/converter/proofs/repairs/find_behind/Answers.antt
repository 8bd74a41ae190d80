use Rattle.std.proofs.Common.{◌≢◌, ◌≤◌, refl, arith}
use Rattle.twin_forms.specs.Table.{entry}
use Rattle.twin_forms.specs.Sights.{sight}
use Rattle.converter.specs.Looking.{IsMoved, Refers}
use Rattle.converter.proofs.Looked.{met_below}
use Rattle.converter.proofs.repairs.find_behind.Goals as goal

pub behind_at-requires-clause-object : goal.behind_at-requires-clause-object
behind_at-requires-clause-object g c = let q = c.requires.object in (q.0, q.1, q.2 c.loop-k.k (omega arith) (omega arith))

pub returns-in-Some-clause-some : goal.returns-in-Some-clause-some
returns-in-Some-clause-some g c = (c.loop-k.k, omega arith, omega arith, c.in-Some.ensures.some)

pub loop-k-preserved : goal.loop-k-preserved
loop-k-preserved g c = λ j lo hi es n m o r.
    let v = sight c.args.heap.now.space c.args.heap.now.memory c.args.heap.now.marks in
    met_below c.loop-k.k (λ x. c.args.from ≤ x → IsMoved v c.args.object c.args.line x es n → Refers v es n x m → (entry es m).stage ≢ 1)
    (λ x lt l y z. c.loop-k.invariant x l lt es n m y z)
    (λ l y z. c.in_default.ensures.none refl es n m y z)
    j hi lo o r

pub returns-clause-none : goal.returns-clause-none
returns-clause-none g c = λ none k lo hi es n m o r. c.loop-k.invariant k lo (omega (arith, hi)) es n m o r
