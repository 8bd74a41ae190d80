use Rattle.std.proofs.Common.{◌≡◌, ◌≤◌, filter, length, take}
use Rattle.class_file.specs.declared.field.Field.{Field}
use Rattle.class_set.specs.Members.{is_static_member}
use Rattle.class_set.proofs.members.count_statics.Given as goal

abbrev pub invariant-loop-field : goal.invariant-loop-field
invariant-loop-field l = record {
  count : l.count ≡ length (filter (λ (f : Field). is_static_member f.access) (take l.field-index l.fields));
  few : l.count ≤ l.field-index;
}
