-- The nodes so far have their places.
use Rattle.std.proofs.Common.{◌≡◌, ◌<◌, ◌+◌, ℕ, length, take, slice_index_or}
use Rattle.image_layout.specs.Places.{first_object_line}
use Rattle.dense_image.specs.Written.{lines_taken}
use Rattle.image_compact.proofs.planning.place_nodes.Given as goal

abbrev pub invariant-loop-node : goal.invariant-loop-node
invariant-loop-node l = record {
  count : length l.lines.items ≡ l.node-index;
  line : l.line ≡ first_object_line + lines_taken (take l.node-index l.nodes);
  each : (n : ℕ) → n < l.node-index → slice_index_or l.lines.items n 0 ≡ first_object_line + lines_taken (take n l.nodes);
}
