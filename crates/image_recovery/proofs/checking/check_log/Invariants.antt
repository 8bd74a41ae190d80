-- The entries so far pass, and their places are among these.
use Rattle.std.proofs.Common.{◌≡◌, ◌++◌, None}
use Rattle.line_memory.specs.Memory.{Memory, shown}
use Rattle.image_meaning.specs.Checks.{first_fault}
use Rattle.image_meaning.specs.Logs.{logs_below, first_logged, entry_fault}
use Rattle.word_changes.specs.Changes.{AllKnown}
use Rattle.image_walk.specs.Walking.{Looks}
use Rattle.image_recovery.specs.Checked.{HasPlaces}
use Rattle.image_recovery.proofs.checking.check_log.Given as goal

abbrev pub invariant-loop-n : goal.invariant-loop-n
invariant-loop-n g l = record {
  looks : Looks l.fn.memory l.memory;
  spared : l.memory.faults ≡ l.fn.memory.faults;
  passes : (first : Memory) → AllKnown first → Looks first l.fn.memory
      → HasPlaces l.fn.places (logs_below (shown first) l.thread)
      → first_fault (entry_fault first.size (shown first) l.thread) l.n ≡ None;
  places : (first : Memory) → AllKnown first → Looks first l.fn.memory
      → HasPlaces l.fn.places (logs_below (shown first) l.thread)
      → HasPlaces l.places (first_logged (shown first) l.thread l.n ++ logs_below (shown first) l.thread);
}
