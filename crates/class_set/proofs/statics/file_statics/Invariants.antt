use Rattle.std.proofs.Common.{◌≡◌, ◌+◌, ◌++◌, drop, length, map}
use Rattle.plain_model.specs.First.{numbers_to}
use Rattle.class_set.specs.Facts.{statics_from}
use Rattle.class_set.specs.Members.{first_static}
use Rattle.class_set.specs.Tables.{static_now}
use Rattle.class_set.proofs.statics.file_statics.Given as goal

abbrev pub invariant-loop-class : goal.invariant-loop-class
invariant-loop-class l = record {
  statics : map (static_now l.files) l.statics.items ++ statics_from l.files l.class (drop l.class l.files) ≡ statics_from l.files 0 l.files;
  count : length l.statics.items + 1 ≡ first_static l.files l.class;
  firsts : l.firsts.items ≡ map (first_static l.files) (numbers_to l.class);
}
