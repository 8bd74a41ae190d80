use Rattle.std.proofs.Common.{◌≡◌, ◌<◌, ℕ, length}
use Rattle.std.specs.Prelude.{slice_index}
use Rattle.twin_heap.proofs.opening.number_lines.Given as goal

abbrev pub invariant-loop-i : goal.invariant-loop-i
invariant-loop-i l = record {
  numbered : (n : ℕ) → n < l.i → slice_index l.numbers.items (slice_index l.lines n) ≡ n;
  long : length l.numbers.items ≡ length l.fn.numbers.items;
}
