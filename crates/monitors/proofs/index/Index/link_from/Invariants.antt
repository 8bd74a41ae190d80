use Rattle.monitors.specs.Indexed.{IsIndex}
use Rattle.monitors.proofs.index.Index.link_from.Given as goal

abbrev pub invariant-loop-n : goal.invariant-loop-n
invariant-loop-n l = IsIndex l.held l.self.latest.items l.self.earlier.items l.n
