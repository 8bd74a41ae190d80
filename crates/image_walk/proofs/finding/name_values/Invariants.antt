use Rattle.std.proofs.Common.{◌≡◌, map}
use Rattle.std.specs.List.{range_with_len}
use Rattle.image_walk.specs.Walking.{named_root}
use Rattle.image_walk.proofs.finding.name_values.Given as goal

abbrev pub invariant-loop-i : goal.invariant-loop-i
invariant-loop-i l = l.roots.items ≡ map (named_root l.names l.values) (range_with_len 0 l.i)
