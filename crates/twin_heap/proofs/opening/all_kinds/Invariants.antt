use Rattle.std.proofs.Common.{◌≡◌, take}
use Rattle.std.specs.Prelude.{map}
use Rattle.twin_heap.specs.Here.{kinds_of}
use Rattle.twin_heap.proofs.opening.all_kinds.Given as goal

abbrev pub invariant-loop-shape : goal.invariant-loop-shape
invariant-loop-shape l = l.kinds.items ≡ map kinds_of (take l.shape-index l.shapes)
