-- The logs so far are put back.
use Rattle.std.proofs.Common.{◌≡◌, ◌*◌, None}
use Rattle.line_memory.specs.Memory.{Memory, shown}
use Rattle.image_layout.specs.Places.{log_entries}
use Rattle.image_meaning.specs.Logs.{logs_below, logs_fault}
use Rattle.word_changes.specs.Changes.{AllKnown, CallsAtMost, GoesOn}
use Rattle.image_walk.specs.Walking.{Looks}
use Rattle.image_recovery.specs.Putting.{IsPutting}
use Rattle.image_recovery.proofs.putting.put_back_logs.Given as goal

abbrev pub invariant-loop-thread : goal.invariant-loop-thread
invariant-loop-thread g l = record {
  puts : (first : Memory) → AllKnown first → Looks first l.fn.memory → logs_fault first.size (shown first) ≡ None
      → IsPutting (shown first) (logs_below (shown first) l.thread) first l.memory;
  goes_on : GoesOn l.fn.memory l.memory;
  calls : CallsAtMost l.fn.memory l.memory (l.thread * log_entries);
  spared : l.memory.faults ≡ l.fn.memory.faults;
}
