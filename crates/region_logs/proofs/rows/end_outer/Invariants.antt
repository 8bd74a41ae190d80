-- The log is kept, and its only region isn't ended yet.
use Rattle.std.proofs.Common.{◌≡◌}
use Rattle.region_log.specs.Kept.{KeepsLog}
use Rattle.region_log.specs.Stages.{CanEnd}
use Rattle.region_logs.specs.Logs.{log_at}
use Rattle.region_logs.proofs.rows.end_outer.Given as goal

abbrev pub invariant-loop-call : goal.invariant-loop-call
invariant-loop-call g l = record {
  lines : l.logs.lines ≡ l.fn.logs.lines;
  can : CanEnd (log_at l.logs l.t).underway;
  depth : (log_at l.logs l.t).depth ≡ 1;
  keeps : KeepsLog (log_at l.logs l.t) l.memory;
}
