-- The lines so far are counted, and the others are left.
use Rattle.std.proofs.Common.{◌≡◌, ◌+◌, ◌++◌, drop, length}
use Rattle.image_report.specs.Texts.{each, root_line, slot_line, node_lines}
use Rattle.image_report.proofs.lengths.with_slots.Given as goal

abbrev pub invariant-loop-i : goal.invariant-loop-i
invariant-loop-i l = l.length + length (each (slot_line l.shape) l.i (drop l.i l.values)) ≡ l.fn.before + length (each (slot_line l.shape) 0 l.values)
