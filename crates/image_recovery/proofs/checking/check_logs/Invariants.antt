-- The logs so far pass, and these are the places of their entries.
use Rattle.std.proofs.Common.{◌≡◌, ◌≤◌, ◌==◌, not, None, length}
use Rattle.std.specs.Prelude.{filter}
use Rattle.std.specs.List.{range_with_len}
use Rattle.line_memory.specs.Memory.{Memory, shown}
use Rattle.image_meaning.specs.Checks.{first_fault}
use Rattle.image_meaning.specs.Logs.{log_count, log_fault, logs_below}
use Rattle.word_changes.specs.Changes.{AllKnown}
use Rattle.image_walk.specs.Walking.{Looks}
use Rattle.image_recovery.specs.Checked.{HasPlaces}
use Rattle.image_recovery.proofs.checking.check_logs.Given as goal

abbrev pub invariant-loop-thread : goal.invariant-loop-thread
invariant-loop-thread g l = record {
  looks : Looks l.fn.memory l.memory;
  spared : l.memory.faults ≡ l.fn.memory.faults;
  passes : (first : Memory) → AllKnown first → Looks first l.fn.memory
      → first_fault (log_fault first.size (shown first)) l.thread ≡ None;
  places : (first : Memory) → AllKnown first → Looks first l.fn.memory
      → HasPlaces l.places (logs_below (shown first) l.thread);
  undone : (first : Memory) → AllKnown first → Looks first l.fn.memory
      → l.undone ≡ length (filter (λ t. not (log_count (shown first) t == 0)) (range_with_len 0 l.thread));
  few : l.undone ≤ l.thread;
}
