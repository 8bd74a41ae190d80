use Rattle.std.proofs.Common.{◌≡◌}
use Rattle.turnstile.proofs.turnstile.Turnstile.looks.Given as goal

abbrev pub invariant-loop-looks : goal.invariant-loop-looks
invariant-loop-looks g l = (l.seat.table_id ≡ l.initial.seat.table_id) × (l.seat.me ≡ l.initial.seat.me)
