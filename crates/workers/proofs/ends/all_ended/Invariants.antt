use Rattle.std.proofs.Common.{◌≡◌, ℕ, ◌<◌, false}
use Rattle.durable_run.specs.Turning.{is_live}
use Rattle.workers.proofs.ends.all_ended.Given as goal

-- none of the first n threads lives
abbrev pub invariant-loop-n : goal.invariant-loop-n
invariant-loop-n l = (u : ℕ) → u < l.n → is_live l.threads u ≡ false
