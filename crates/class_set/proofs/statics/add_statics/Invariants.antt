use Rattle.std.proofs.Common.{◌≡◌, ◌++◌, List, Some, drop, map}
use Rattle.std.specs.Prelude.{slice_get}
use Rattle.class_file.specs.declared.class.ClassFile.{ClassFile}
use Rattle.class_set.specs.Facts.{statics_of_fields}
use Rattle.class_set.specs.Literals.{texts_of}
use Rattle.class_set.specs.Tables.{static_now}
use Rattle.class_set.proofs.statics.add_statics.Given as goal

abbrev pub invariant-loop-place : goal.invariant-loop-place
invariant-loop-place l = (files : List ClassFile) → l.literals ≡ texts_of files → slice_get files l.class ≡ Some l.file
    → map (static_now files) l.statics.items ++ statics_of_fields files l.class l.file (drop l.place l.file.fields)
    ≡ map (static_now files) l.fn.statics.items ++ statics_of_fields files l.class l.file l.file.fields
