-- The entries from one on are put back.
use Rattle.std.proofs.Common.{◌≡◌, ◌≤◌, ◌-◌, ◌++◌, None, drop}
use Rattle.line_memory.specs.Memory.{Memory}
use Rattle.image_layout.specs.Places.{log_entries}
use Rattle.image_meaning.specs.Checks.{Words}
use Rattle.image_meaning.specs.Logs.{log_count, log_of, logs_below, logs_fault}
use Rattle.word_changes.specs.Changes.{CallsAtMost, GoesOn}
use Rattle.image_recovery.specs.Putting.{IsPutting}
use Rattle.image_recovery.proofs.putting.put_back_log.Given as goal

abbrev pub decreases-loop-left : goal.decreases-loop-left
decreases-loop-left g l = l.left

abbrev pub invariant-loop-left : goal.invariant-loop-left
invariant-loop-left g l = record {
  few : l.left ≤ log_entries;
  puts : (c : Words) (first : Memory) → logs_fault l.fn.memory.size c ≡ None → IsPutting c (logs_below c l.thread) first l.fn.memory
      → (l.left ≤ log_count c l.thread) × IsPutting c (drop l.left (log_of c l.thread) ++ logs_below c l.thread) first l.memory;
  goes_on : GoesOn l.fn.memory l.memory;
  calls : CallsAtMost l.fn.memory l.memory (log_entries - l.left);
  spared : l.memory.faults ≡ l.fn.memory.faults;
}
