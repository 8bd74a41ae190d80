-- The words so far are read.
use Rattle.std.proofs.Common.{◌≡◌, ◌<◌, ℕ, length, get_or}
use Rattle.line_memory.specs.Memory.{shown}
use Rattle.line_memory.specs.Moments.{CountsFrom}
use Rattle.image_layout.specs.Places.{directory_line, directory_word}
use Rattle.word_changes.specs.Changes.{AllKnown, Nothing, ChangesTo}
use Rattle.directories.proofs.reading.read_words.Given as goal

abbrev pub invariant-loop-i : goal.invariant-loop-i
invariant-loop-i g l = record {
  count : length l.words.items ≡ l.i;
  reads : AllKnown l.fn.memory → (k : ℕ) → k < l.i
      → get_or l.words.items k 0 ≡ shown l.fn.memory (directory_line k) (directory_word k);
  changes : ChangesTo Nothing l.fn.memory l.memory;
  counts : (begin : ℕ) → CountsFrom begin l.fn.memory → CountsFrom begin l.memory;
  calls : l.memory.calls ≡ l.fn.memory.calls;
  spared : l.memory.faults ≡ l.fn.memory.faults;
}
