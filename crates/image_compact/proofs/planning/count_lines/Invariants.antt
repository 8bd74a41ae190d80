-- The lines of the nodes so far.
use Rattle.std.proofs.Common.{◌≡◌, ◌-◌, ◌^◌, min, take}
use Rattle.dense_image.specs.Written.{lines_taken}
use Rattle.image_compact.proofs.planning.count_lines.Given as goal

abbrev pub invariant-loop-node : goal.invariant-loop-node
invariant-loop-node l = l.count ≡ min (lines_taken (take l.node-index l.nodes)) (2 ^ 64 - 1)
