use Rattle.std.proofs.Common.{◌≢◌, ℕ, ◌<◌, ◌≤◌, List}
use Rattle.twin_forms.specs.Table.{Entry, entry}
use Rattle.twin_forms.specs.Sights.{sight}
use Rattle.converter.specs.Looking.{IsMoved, Refers}
use Rattle.converter.proofs.repairs.find_behind.Given as goal

abbrev pub invariant-loop-k : goal.invariant-loop-k
invariant-loop-k g l = (j : ℕ) → l.from ≤ j → j < l.k → (es : List Entry) (n m : ℕ) → IsMoved (sight l.heap.space l.heap.memory l.heap.marks) l.object l.line j es n →
    Refers (sight l.heap.space l.heap.memory l.heap.marks) es n j m → (entry es m).stage ≢ 1
