use Rattle.std.proofs.Common.{◌≡◌, drop}
use Rattle.std.specs.List.{flat_map}
use Rattle.class_set.specs.ArrayTypes.{listed_by_class}
use Rattle.class_set.specs.ArrayTypes.{with_arrays}
use Rattle.class_set.proofs.arrays.add_for_classes.Given as goal

abbrev pub invariant-loop-file : goal.invariant-loop-file
invariant-loop-file l =
    with_arrays l.arrays (flat_map (listed_by_class l.what) (drop l.file-index l.files))
    ≡ with_arrays l.fn.arrays (flat_map (listed_by_class l.what) l.files)
