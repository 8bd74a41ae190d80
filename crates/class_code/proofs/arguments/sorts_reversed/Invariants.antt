use Rattle.std.proofs.Common.{◌≡◌, map, take}
use Rattle.class_code.specs.Methods.{sort_of_type}
use Rattle.class_code.proofs.arguments.sorts_reversed.Given as goal

abbrev pub invariant-loop-field : goal.invariant-loop-field
invariant-loop-field l = l.sorts.items ≡ map sort_of_type (take l.field-index l.types)
