use Rattle.std.proofs.Common.{◌≡◌, ◌++◌, map, take}
use Rattle.class_set.specs.Tables.{array_now, array_shape}
use Rattle.class_set.proofs.types.add_array_shapes.Given as goal

abbrev pub invariant-loop-array : goal.invariant-loop-array
invariant-loop-array l = l.shapes.items ≡ l.fn.shapes.items ++ map array_shape (map array_now (take l.array-index l.arrays))
