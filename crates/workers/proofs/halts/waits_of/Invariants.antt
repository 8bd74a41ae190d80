use Rattle.workers.proofs.Filling.{IsFilled}
use Rattle.workers.proofs.halts.waits_of.Given as goal

-- what the first n threads wait for is noted, and nothing else
abbrev pub invariant-loop-n : goal.invariant-loop-n
invariant-loop-n g l = IsFilled l.waits l.heap.notes.waits l.n
