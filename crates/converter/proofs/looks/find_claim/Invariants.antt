use Rattle.std.proofs.Common.{ℕ, ◌<◌, ◌≤◌, List}
use Rattle.twin_forms.specs.Table.{Entry}
use Rattle.twin_forms.specs.Sights.{sight}
use Rattle.converter.specs.Looking.{IsOld, IsTaken, Refers}
use Rattle.converter.proofs.looks.find_claim.Given as goal

abbrev pub invariant-loop-k : goal.invariant-loop-k
invariant-loop-k g l = (es : List Entry) (n j m : ℕ) → IsOld (sight l.heap.space l.heap.memory l.heap.marks) l.object l.to es n → l.from ≤ j → j < l.k →
    Refers (sight l.heap.space l.heap.memory l.heap.marks) es n j m → IsTaken es m
