use Rattle.std.proofs.Common.{◌≡◌, ◌<◌, ◌≤◌, ◌+◌, ℕ, [], take, reverse, length, get_or}
use Rattle.line_image.specs.Trace.{versions_from}
use Rattle.line_image.proofs.crash.last_writes.Given as goal

abbrev pub invariant-loop-effect : goal.invariant-loop-effect
invariant-loop-effect l = record {
  size : length l.writes.items ≡ length l.first;
  few : l.fences ≤ l.effect-index + 1;
  past : (k : ℕ) → get_or l.writes.items k 0 ≤ l.fences;
  fenced : (k : ℕ) → get_or l.writes.items k 0 < l.fences
      → length (versions_from (get_or l.first k []) (reverse (take l.effect-index l.done)) k) ≡ 1;
}
