use Rattle.std.proofs.Common.{◌≡◌, ◌++◌, drop, map}
use Rattle.class_set.specs.Members.{field_facts, layout_of_fields}
use Rattle.class_set.proofs.layouts.push_file_fields.Given as goal

abbrev pub invariant-loop-field : goal.invariant-loop-field
invariant-loop-field l =
    l.fields ++ layout_of_fields (map (field_facts l.file.pool) (drop l.field-index l.field-items))
    ≡ l.fn.fields ++ layout_of_fields (map (field_facts l.file.pool) l.field-items)
