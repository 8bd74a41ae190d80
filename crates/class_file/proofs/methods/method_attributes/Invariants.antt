use Rattle.std.proofs.Common.{◌≡◌, ◌-◌}
use Rattle.class_file.specs.Members.{method_attributes_from}
use Rattle.parsing.proofs.Loops.{with_front}
use Rattle.class_file.proofs.methods.method_attributes.Given as goal

abbrev pub invariant-loop : goal.invariant-loop
invariant-loop l = with_front l.attributes.items (method_attributes_from l.pool l.method l.done (l.count - l.counter) l.file) ≡ method_attributes_from l.pool l.method l.fn.done l.count l.fn.file
