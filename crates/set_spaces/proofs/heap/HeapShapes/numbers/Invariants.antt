use Rattle.std.proofs.Common.{◌≡◌, length}
use Rattle.set_spaces.specs.Numbering.{AreNumbers}
use Rattle.set_spaces.proofs.heap.HeapShapes.numbers.Given as goal

abbrev pub invariant-loop-class : goal.invariant-loop-class
invariant-loop-class l =
    (length l.numbers.items ≡ l.class) × AreNumbers l.shapes l.places l.fn.self l.self l.numbers.items
