-- The array types so far have numbers.
use Rattle.std.proofs.Common.{◌≡◌, take}
use Rattle.set_opening.specs.Arrays.{with_arrays_of}
use Rattle.set_opening.proofs.numbering.number_arrays.Given as goal

abbrev pub invariant-loop-shape : goal.invariant-loop-shape
invariant-loop-shape l = l.set ≡ with_arrays_of l.fn.set (take l.shape-index l.directory.shapes)
