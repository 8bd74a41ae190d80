use Rattle.std.proofs.Common.{◌≡◌, ◌+◌, ◌<◌, drop}
use Rattle.frames.specs.Calls.{cells_taken}
use Rattle.class_code.proofs.selectors.cells_taken.Given as goal

abbrev pub invariant-loop-sort : goal.invariant-loop-sort
invariant-loop-sort l = record {
  counted : cells_taken l.sorts ≡ l.cells + cells_taken (drop l.sort-index l.sorts);
  few : l.cells < 65536;
}
