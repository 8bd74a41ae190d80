-- Each line of the image is resident, so that no event reads one first.
use Rattle.std.proofs.Common.{ℕ, List, arith}
use Rattle.twin_forms.specs.Table.{Entry}
use Rattle.convert_words.specs.Scenes.{Scene, AgreesAt}
use Rattle.convert_words.specs.Converting.{TouchesLine}
use Rattle.machine.specs.Laws.{AreResident}

-- ---- touches

pub touches-none : AreResident → (s s' : Scene) (es es' : List Entry) (t : ℕ) → AgreesAt s es
    → TouchesLine s s' es es' t → ⊥
touches-none resident s s' es es' t agrees touches =
    let own = touches.own in
    let inside = (agrees.lies.table.copy_in own.n own.claimed.0 own.placed).1 in
    let to = own.to in
    touches.missing (resident s.heap.memory touches.line (omega (arith, inside, to)))
