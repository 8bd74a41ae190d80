use Rattle.std.proofs.Common.{map, take}
use Rattle.class_set.specs.Tables.{static_now}
use Rattle.plain_launch.specs.Roots.{AreRootNames}
use Rattle.plain_launch.proofs.roots.root_names.Given as goal

abbrev pub invariant-loop-field : goal.invariant-loop-field
invariant-loop-field l = AreRootNames (map (static_now l.set.files) (take l.field-index l.field-items)) l.names
