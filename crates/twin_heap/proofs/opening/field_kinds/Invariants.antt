use Rattle.std.proofs.Common.{◌≡◌, take}
use Rattle.std.specs.Prelude.{map}
use Rattle.twin_heap.specs.Here.{kind_of_field}
use Rattle.twin_heap.proofs.opening.field_kinds.Given as goal

abbrev pub invariant-loop-field : goal.invariant-loop-field
invariant-loop-field l = l.kinds.items ≡ map kind_of_field (take l.field-index l.fields)
