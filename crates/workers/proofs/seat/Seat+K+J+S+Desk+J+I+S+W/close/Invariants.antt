use Rattle.turnstile.specs.Passes.{IsIdle, IsOf}
use Rattle.workers.proofs.seat.Seat+K+J+S+Desk+J+I+S+W.close.Given as goal

abbrev pub invariant-loop : goal.invariant-loop
invariant-loop g l = record { of : IsOf l.pass l.turnstile; idle : IsIdle l.pass }
