use Rattle.std.proofs.Common.{◌≡◌}
use Rattle.turnstile.specs.Passes.{number_of, IsIdle, IsOf}
use Rattle.turnstile.proofs.tests.take_turns.Given as goal

abbrev pub invariant-loop-what : goal.invariant-loop-what
invariant-loop-what g l = IsOf l.pass l.turnstile × IsIdle l.pass × (number_of l.pass ≡ l.worker)
