use Rattle.std.proofs.Common.{ℕ, ◌<◌, ◌≡◌, true}
use Rattle.convert_queue.specs.Threads.{has}
use Rattle.convert_queue.specs.Queues.{IsSettled}
use Rattle.convert_queue.proofs.conversions.Conversions.may_seal.Given as goal

abbrev pub invariant-loop-u : goal.invariant-loop-u
invariant-loop-u l = record { settled : (k : ℕ) → k < l.u → has l.set k ≡ true → IsSettled l.self k }
