use Rattle.std.proofs.Common.{◌≡◌, ◌++◌, map, take}
use Rattle.built_in_table.specs.Rows.{slot_field}
use Rattle.class_set.proofs.layouts.push_slots.Given as goal

abbrev pub invariant-loop-slot : goal.invariant-loop-slot
invariant-loop-slot l = l.fields ≡ l.fn.fields ++ map slot_field (take l.slot-index l.slots)
