use Rattle.std.proofs.Common.{◌≡◌}
use Rattle.convert_queue.specs.Chains.{next_in, nth_from}
use Rattle.convert_queue.proofs.queue_lists.entry_at.Given as goal

abbrev pub invariant-loop-k : goal.invariant-loop-k
invariant-loop-k l = l.entry ≡ nth_from (next_in l.entries) l.k l.fn.chain.first
