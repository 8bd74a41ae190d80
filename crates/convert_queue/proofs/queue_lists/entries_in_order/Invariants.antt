use Rattle.std.proofs.Common.{ℕ, ◌≡◌, ◌+◌, ◌<◌, ◌≤◌, length}
use Rattle.std.specs.Prelude.{vec_capacity}
use Rattle.convert_queue.specs.Chains.{next_in}
use Rattle.convert_queue.proofs.queue_lists.entries_in_order.Given as goal

abbrev pub invariant-loop-i : goal.invariant-loop-i
invariant-loop-i l = record {
  room : l.count ≤ vec_capacity l.entries;
  long : length l.entries.items ≡ l.i;
  next : (k : ℕ) → k < l.i → next_in l.entries.items k ≡ k + 1;
}
