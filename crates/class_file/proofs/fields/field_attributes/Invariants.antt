use Rattle.std.proofs.Common.{◌≡◌, ◌-◌}
use Rattle.class_file.specs.Members.{no_facts, field_attributes_from}
use Rattle.class_file.proofs.FieldAttributes.{with_front}
use Rattle.class_file.proofs.fields.field_attributes.Given as goal

abbrev pub invariant-loop : goal.invariant-loop
invariant-loop l = with_front l.attributes.items (field_attributes_from l.pool (l.count - l.counter) l.facts l.file) ≡ field_attributes_from l.pool l.count no_facts l.fn.file
