-- The log is kept, and adds the word.
use Rattle.std.proofs.Common.{◌≡◌, ◌<◌, true}
use Rattle.region_log.specs.Guarding.{is_adding}
use Rattle.region_log.specs.Kept.{KeepsLog}
use Rattle.region_logs.specs.Logs.{log_at}
use Rattle.region_logs.proofs.rows.log_word.Given as goal

abbrev pub invariant-loop-call : goal.invariant-loop-call
invariant-loop-call g l = record {
  lines : l.logs.lines ≡ l.fn.logs.lines;
  named : is_adding (log_at l.logs l.t).underway ≡ true;
  opened : 0 < (log_at l.logs l.t).depth;
  depth : (log_at l.logs l.t).depth ≡ (log_at l.fn.logs l.t).depth;
  keeps : KeepsLog (log_at l.logs l.t) l.memory;
}
