use Rattle.std.proofs.Common.{◌≡◌, ◌<◌, ℕ, length, slice_index}
use Rattle.line_image.specs.Crash.{state_after, version_word}
use Rattle.line_image.proofs.crash.pick_words.Given as goal

abbrev pub invariant-loop-word : goal.invariant-loop-word
invariant-loop-word l = record {
  size : length l.words ≡ 8;
  state : l.state ≡ state_after l.fn.state l.word;
  words : (w : ℕ) → w < l.word → slice_index l.words w ≡ version_word l.versions l.pick l.fn.state w;
}
