use Rattle.std.proofs.Common.{◌≡◌, List, map, take}
use Rattle.class_file.specs.declared.class.ClassFile.{ClassFile}
use Rattle.class_set.specs.ArrayTypes.{array_type}
use Rattle.class_set.specs.Tables.{AreNames, array_now}
use Rattle.class_set.proofs.types.array_types.Given as goal

abbrev pub invariant-loop-text : goal.invariant-loop-text
invariant-loop-text l = (files : List ClassFile) → AreNames files l.names l.classes
    → map array_now l.arrays.items ≡ map (array_type files) (take l.text-index l.text-items)
