-- The lines so far are cleared and written.
use Rattle.std.proofs.Common.{◌≡◌, ◌-◌}
use Rattle.image_layout.specs.Places.{slot_line}
use Rattle.word_changes.specs.Changes.{ChangesTo, CallsAtMost, GoesOn, WritesAll}
use Rattle.directories.specs.Formatting.{OfLines}
use Rattle.directories.proofs.formatting.clear_slots.Given as goal

abbrev pub invariant-loop-line : goal.invariant-loop-line
invariant-loop-line g l = record {
  wrote : WritesAll (OfLines (slot_line 0) l.line) l.fn.memory l.memory;
  changes : ChangesTo (OfLines (slot_line 0) l.line) l.fn.memory l.memory;
  goes_on : GoesOn l.fn.memory l.memory;
  calls : CallsAtMost l.fn.memory l.memory (l.line - slot_line 0);
  spared : l.memory.faults ≡ l.fn.memory.faults;
}
