use Rattle.std.proofs.Common.{◌≡◌, ◌++◌, All, flat_map, length}
use Rattle.std.specs.Vec.Iter.{into_iter_items, into_iter_len}
use Rattle.turnstile.specs.Passes.{hands_of, IsIdle}
use Rattle.turnstile.proofs.turnstile.Turnstile.take_in.Given as goal

abbrev pub invariant-loop-pass : goal.invariant-loop-pass
invariant-loop-pass g l = record {
  of : l.seat.table_id ≡ l.fn.seat.table_id;
  phase : l.seat.me.0.phase ≡ l.fn.seat.me.0.phase;
  ticket : l.seat.me.0.ticket ≡ l.fn.seat.me.0.ticket;
  slots : l.seat.me.1 ≡ l.fn.seat.me.1;
  hands : l.seat.me.0.hands ++ flat_map (λ p. hands_of p) (into_iter_items l.pass-iterator) ≡ l.fn.seat.me.0.hands ++ flat_map (λ p. hands_of p) l.fn.passes.items;
  ours : All (λ p. p.seat.table_id ≡ l.fn.seat.table_id) (into_iter_items l.pass-iterator);
  idle : All (λ p. IsIdle p) (into_iter_items l.pass-iterator);
  count : into_iter_len l.pass-iterator ≡ length (into_iter_items l.pass-iterator);
}
