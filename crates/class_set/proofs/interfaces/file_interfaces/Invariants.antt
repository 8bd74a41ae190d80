use Rattle.std.proofs.Common.{◌≡◌, map, take}
use Rattle.class_set.specs.Members.{interface_numbers}
use Rattle.class_set.proofs.interfaces.file_interfaces.Given as goal

abbrev pub invariant-loop-file : goal.invariant-loop-file
invariant-loop-file l = l.edges.items ≡ map (interface_numbers l.files) (take l.file-index l.files)
