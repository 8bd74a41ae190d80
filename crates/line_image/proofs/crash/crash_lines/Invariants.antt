use Rattle.std.proofs.Common.{◌≡◌, ◌<◌, ℕ, [], length, get_or, slice_index, reverse, All}
use Rattle.line_image.specs.Crash.{state_at, word_left}
use Rattle.line_image.proofs.crash.crash_lines.Given as goal

abbrev pub invariant-loop-line : goal.invariant-loop-line
invariant-loop-line l = record {
  size : length l.lines.items ≡ l.line;
  eights : All (λ line. length line ≡ 8) l.lines.items;
  state : l.state ≡ state_at l.pick (record { first = l.first; done = reverse l.done }) l.line;
  behind : (k w : ℕ) → k < l.line → w < 8 → slice_index (get_or l.lines.items k []) w
      ≡ word_left l.pick (record { first = l.first; done = reverse l.done }) k w;
}
