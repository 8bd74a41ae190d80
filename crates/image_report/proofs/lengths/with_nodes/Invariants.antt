-- The lines so far are counted, and the others are left.
use Rattle.std.proofs.Common.{◌≡◌, ◌+◌, ◌++◌, drop, length}
use Rattle.image_report.specs.Texts.{each, root_line, slot_line, node_lines}
use Rattle.image_report.proofs.lengths.with_nodes.Given as goal

abbrev pub invariant-loop-k : goal.invariant-loop-k
invariant-loop-k l = l.length + length (each node_lines l.k (drop l.k l.nodes)) ≡ l.fn.before + length (each node_lines 0 l.nodes)
