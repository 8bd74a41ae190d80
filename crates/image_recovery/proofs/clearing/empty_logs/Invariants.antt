-- The logs so far are empty.
use Rattle.std.proofs.Common.{◌≡◌, ◌<◌, ℕ}
use Rattle.line_memory.specs.Memory.{shown}
use Rattle.image_layout.specs.Places.{log_head_line}
use Rattle.word_changes.specs.Changes.{Tells, AllKnown, ChangesTo, CallsAtMost, GoesOn}
use Rattle.image_recovery.specs.Putting.{IsCleared, AllWritten}
use Rattle.image_recovery.proofs.clearing.empty_logs.Given as goal

abbrev pub invariant-loop-thread : goal.invariant-loop-thread
invariant-loop-thread g l = record {
  empty : AllKnown l.fn.memory → (t : ℕ) → t < l.thread → shown l.memory (log_head_line t) 0 ≡ 0;
  written : Tells l.fn.memory → AllWritten l.fn.memory → AllWritten l.memory;
  changes : ChangesTo IsCleared l.fn.memory l.memory;
  goes_on : GoesOn l.fn.memory l.memory;
  calls : CallsAtMost l.fn.memory l.memory l.thread;
  spared : l.memory.faults ≡ l.fn.memory.faults;
}
