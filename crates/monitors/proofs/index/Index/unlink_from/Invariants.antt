use Rattle.std.proofs.Common.{◌≤◌}
use Rattle.monitors.specs.Indexed.{IsIndex}
use Rattle.monitors.proofs.index.Index.unlink_from.Given as goal

abbrev pub invariant-loop-n : goal.invariant-loop-n
invariant-loop-n l = record {
  low : l.from ≤ l.n;
  index : IsIndex l.held l.self.latest.items l.self.earlier.items l.n;
}
