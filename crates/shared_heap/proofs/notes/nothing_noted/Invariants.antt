use Rattle.std.proofs.Common.{◌≡◌, ◌≤◌}
use Rattle.std.specs.Prelude.{replicate, vec_capacity, None}
use Rattle.shared_heap.proofs.notes.nothing_noted.Given as goal

abbrev pub invariant-loop : goal.invariant-loop
invariant-loop g l = record {
  room : 64 ≤ vec_capacity l.noted;
  none : l.noted.items ≡ replicate l.counter None;
}
