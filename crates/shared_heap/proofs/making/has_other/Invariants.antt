use Rattle.std.proofs.Common.{◌≡◌, ◌≢◌, ◌<◌, ℕ, true}
use Rattle.convert_queue.specs.Threads.{has}
use Rattle.shared_heap.proofs.making.has_other.Given as goal

abbrev pub invariant-loop-u : goal.invariant-loop-u
invariant-loop-u l = record { none : (k : ℕ) → k < l.u → k ≢ l.t → has l.set k ≡ true → ⊥ }
