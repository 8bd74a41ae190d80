-- The words so far are stored.
use Rattle.std.proofs.Common.{◌≡◌, ◌<◌, ◌≤◌, ◌+◌, ℕ, slice_index_or}
use Rattle.line_memory.specs.Memory.{shown, SameResident, SameImage}
use Rattle.image_layout.specs.Places.{directory_line, directory_word}
use Rattle.word_changes.specs.Changes.{ChangesTo}
use Rattle.directories.specs.Appending.{OfWords}
use Rattle.directories.proofs.stepping.store_words.Given as goal

abbrev pub invariant-loop-i : goal.invariant-loop-i
invariant-loop-i g l = record {
  shows : (k : ℕ) → l.from ≤ k → k < l.i
      → shown l.memory (directory_line (l.used + k)) (directory_word (l.used + k)) ≡ slice_index_or l.entry k 0;
  changes : ChangesTo (OfWords l.used l.entry l.from l.to) l.fn.memory l.memory;
  resident : SameResident l.fn.memory l.memory;
  same : SameImage l.fn.memory l.memory;
}
