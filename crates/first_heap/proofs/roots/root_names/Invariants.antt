use Rattle.std.proofs.Common.{map, take}
use Rattle.class_set.specs.Tables.{static_now}
use Rattle.first_heap.specs.Roots.{AreRootNames}
use Rattle.first_heap.proofs.roots.root_names.Given as goal

abbrev pub invariant-loop-field : goal.invariant-loop-field
invariant-loop-field l = AreRootNames (map (static_now l.set.files) (take l.field-index l.field-items)) l.names
