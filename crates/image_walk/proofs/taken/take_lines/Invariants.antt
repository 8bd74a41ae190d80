-- The lines so far were free, and are taken.
use Rattle.std.proofs.Common.{◌≡◌, ◌<◌, ◌+◌, ℕ, false, length, slice_index_or, ◌||◌, ◌&&◌, nat_le, nat_lt}
use Rattle.image_walk.proofs.taken.take_lines.Given as goal

abbrev pub invariant-loop-i : goal.invariant-loop-i
invariant-loop-i l = record {
  size : length l.taken ≡ length l.fn.taken;
  were : (k : ℕ) → k < l.i → slice_index_or l.fn.taken (l.line + k) false ≡ false;
  are : (at : ℕ) → slice_index_or l.taken at false
      ≡ (slice_index_or l.fn.taken at false || (nat_le l.line at && nat_lt at (l.line + l.i)));
}
