-- The head lines so far are cleared and written.
use Rattle.std.proofs.Common.{◌≡◌}
use Rattle.word_changes.specs.Changes.{ChangesTo, GoesOn, WritesAll}
use Rattle.image_compact.specs.Writing.{OfHeads}
use Rattle.image_compact.proofs.writing.clear_heads.Given as goal

abbrev pub invariant-loop-thread : goal.invariant-loop-thread
invariant-loop-thread g l = record {
  wrote : WritesAll (OfHeads l.thread) l.fn.memory l.memory;
  changes : ChangesTo (OfHeads l.thread) l.fn.memory l.memory;
  goes_on : GoesOn l.fn.memory l.memory;
  spared : l.memory.faults ≡ l.fn.memory.faults;
}
