-- The log is kept, and its region is open.
use Rattle.std.proofs.Common.{◌≡◌}
use Rattle.region_log.specs.Kept.{KeepsLog}
use Rattle.region_log.specs.Stages.{CanEnd}
use Rattle.region_rows.proofs.regions.end.Given as goal

abbrev pub invariant-loop-call : goal.invariant-loop-call
invariant-loop-call g l = record {
  keeps : KeepsLog l.log l.memory;
  open_still : l.log.depth ≡ 1;
  can : CanEnd l.log.underway;
}
