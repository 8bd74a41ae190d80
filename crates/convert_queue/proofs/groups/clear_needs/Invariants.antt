use Rattle.std.proofs.Common.{◌≡◌, ◌⊎◌, ◌<◌, ◌≤◌, ℕ, true, false, length}
use Rattle.std.specs.Prelude.{slice_index}
use Rattle.convert_queue.specs.Threads.{has, needs_of}
use Rattle.convert_queue.proofs.groups.clear_needs.Given as goal

abbrev pub invariant-loop-u : goal.invariant-loop-u
invariant-loop-u l = record {
  long : length l.needs ≡ 64;
  left : (a : ℕ) → l.u ≤ a → slice_index l.needs a ≡ slice_index l.fn.needs a;
  others : (a b : ℕ) → a < l.u → has l.set a ≡ false → has l.set b ≡ false → needs_of l.needs a b ≡ needs_of l.fn.needs a b;
  no_more : (a b : ℕ) → a < l.u → b < 64 → (has l.set a ≡ true) ⊎ (has l.set b ≡ true) → needs_of l.needs a b ≡ false;
}
