use Rattle.monitors.proofs.Indexing.{IsSearched}
use Rattle.monitors.proofs.index.Index.find.Given as goal

abbrev pub invariant-loop-at : goal.invariant-loop-at
invariant-loop-at l = IsSearched l.held l.key l.at

abbrev pub decreases-loop-at : goal.decreases-loop-at
decreases-loop-at l = l.at
