-- The log is kept, and adds this word alone.
use Rattle.std.proofs.Common.{◌≡◌}
use Rattle.line_memory.specs.Memory.{shown}
use Rattle.region_log.specs.declared.entry.Underway.TheVariants.{Nothing}
use Rattle.region_log.specs.Kept.{KeepsLog}
use Rattle.region_log.specs.Log.{entry_of}
use Rattle.region_log.specs.Stages.{CanAdd}
use Rattle.region_rows.proofs.regions.log_word.Given as goal

abbrev pub invariant-loop-call : goal.invariant-loop-call
invariant-loop-call g l = record {
  keeps : KeepsLog l.log l.memory;
  can : CanAdd l.log.underway (entry_of l.spot l.old);
  shows : l.log.underway ≡ Nothing → l.old ≡ shown l.memory l.spot.line l.spot.word;
  entries : l.log.entries ≡ l.fn.log.entries;
  depth : l.log.depth ≡ l.fn.log.depth;
  thread : l.log.thread ≡ l.fn.log.thread;
  size : l.memory.size ≡ l.fn.memory.size;
}
