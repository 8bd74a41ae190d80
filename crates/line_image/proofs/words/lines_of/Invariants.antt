use Rattle.std.proofs.Common.{◌≡◌, ◌<◌, ◌+◌, ◌*◌, ℕ, [], length, get_or, slice_index, All}
use Rattle.line_image.proofs.words.lines_of.Given as goal

abbrev pub invariant-loop-line : goal.invariant-loop-line
invariant-loop-line l = record {
  size : length l.lines.items ≡ l.line;
  eights : All (λ line. length line ≡ 8) l.lines.items;
  words : (k w : ℕ) → k < l.line → w < 8 → slice_index (get_or l.lines.items k []) w ≡ slice_index l.words (8 * k + w);
}
