use Rattle.std.proofs.Common.{◌≡◌, ℕ, ◌<◌, ◌≤◌, true, Some, slice_get}
use Rattle.workers.proofs.job.beyond_last.Given as goal

-- each of the first n that may have an event is below the number
abbrev pub invariant-loop-n : goal.invariant-loop-n
invariant-loop-n l = (l.beyond ≤ l.n) × ((u : ℕ) → u < l.n → slice_get l.may u ≡ Some true → u < l.beyond)
