use Rattle.std.proofs.Common.{◌≡◌, map, take}
use Rattle.class_set.specs.Members.{super_number}
use Rattle.class_set.proofs.supers.file_supers.Given as goal

abbrev pub invariant-loop-file : goal.invariant-loop-file
invariant-loop-file l = l.supers.items ≡ map (super_number l.files) (take l.file-index l.files)
