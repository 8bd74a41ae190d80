-- The lines so far are put, and the others are left.
use Rattle.std.proofs.Common.{◌≡◌, ◌+◌, ◌++◌, drop, length}
use Rattle.image_report.specs.Texts.{each, root_line, slot_line, node_lines}
use Rattle.image_report.proofs.lines.put_roots.Given as goal

abbrev pub invariant-loop-k : goal.invariant-loop-k
invariant-loop-k l = l.out.items ++ each root_line l.k (drop l.k l.roots) ≡ l.fn.out.items ++ each root_line 0 l.roots
