use Rattle.std.proofs.Common.{◌≡◌, map, take}
use Rattle.class_file.specs.declared.class.ClassFile.{ClassFile}
use Rattle.class_set.specs.Facts.{class_facts}
use Rattle.class_set.proofs.layouts.file_shapes.Given as goal

abbrev pub invariant-loop-class : goal.invariant-loop-class
invariant-loop-class l = l.shapes.items ≡ map (λ (c : ClassFile). (class_facts l.files c).shape) (take l.class l.files)
