-- The lines so far are put, and the others are left.
use Rattle.std.proofs.Common.{◌≡◌, ◌+◌, ◌++◌, drop, length}
use Rattle.image_report.specs.Texts.{each, root_line, slot_line, node_lines}
use Rattle.image_report.proofs.lines.put_slots.Given as goal

abbrev pub invariant-loop-i : goal.invariant-loop-i
invariant-loop-i l = l.out.items ++ each (slot_line l.shape) l.i (drop l.i l.values) ≡ l.fn.out.items ++ each (slot_line l.shape) 0 l.values
