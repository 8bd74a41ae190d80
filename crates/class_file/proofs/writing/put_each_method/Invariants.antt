use Rattle.std.proofs.Common.{◌≡◌, ◌++◌, take}
use Rattle.std.specs.List.{flat_map}
use Rattle.class_file.specs.Members.{method_bytes}
use Rattle.class_file.proofs.writing.put_each_method.Given as goal

abbrev pub invariant-loop-method : goal.invariant-loop-method
invariant-loop-method l = l.out.items ≡ l.initial.out.items ++ flat_map method_bytes (take l.method-index l.methods)
