use Rattle.std.proofs.Common.{◌≡◌, ◌+◌, take, sum_by, length}
use Rattle.turnstile.specs.Passes.{hands_of}
use Rattle.turnstile.proofs.turnstile.Turnstile.are_all.Given as goal

abbrev pub invariant-loop-pass : goal.invariant-loop-pass
invariant-loop-pass g l = l.missing + sum_by (λ p. length (hands_of p)) (take l.pass-index l.passes.items) ≡ l.self.passes
