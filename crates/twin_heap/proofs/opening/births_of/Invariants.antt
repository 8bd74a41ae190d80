use Rattle.std.proofs.Common.{◌≡◌, ◌<◌, ◌≤◌, ◌+◌, ◌*◌, ℕ, length}
use Rattle.std.specs.Prelude.{slice_index, vec_capacity}
use Rattle.twin_heap.proofs.opening.births_of.Given as goal

abbrev pub invariant-loop-i : goal.invariant-loop-i
invariant-loop-i l = record {
  births : (n : ℕ) → n < l.i → slice_index l.births.items n ≡ 2 * slice_index l.lines n;
  count : length l.births.items ≡ l.i;
  room : length l.lines + l.room ≤ vec_capacity l.births;
}
