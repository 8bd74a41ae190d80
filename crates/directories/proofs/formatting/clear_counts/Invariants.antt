-- The counts so far are cleared and written.
use Rattle.std.proofs.Common.{◌≡◌}
use Rattle.word_changes.specs.Changes.{ChangesTo, CallsAtMost, GoesOn, WritesAll}
use Rattle.directories.specs.Formatting.{OfCounts}
use Rattle.directories.proofs.formatting.clear_counts.Given as goal

abbrev pub invariant-loop-thread : goal.invariant-loop-thread
invariant-loop-thread g l = record {
  wrote : WritesAll (OfCounts l.thread) l.fn.memory l.memory;
  changes : ChangesTo (OfCounts l.thread) l.fn.memory l.memory;
  goes_on : GoesOn l.fn.memory l.memory;
  calls : CallsAtMost l.fn.memory l.memory l.thread;
  spared : l.memory.faults ≡ l.fn.memory.faults;
}
