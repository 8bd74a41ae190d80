-- The words so far are 0.
use Rattle.std.proofs.Common.{◌≡◌, ◌<◌, ◌+◌, ℕ}
use Rattle.line_memory.specs.Memory.{shown, SameResident, SameImage}
use Rattle.word_changes.specs.Changes.{ChangesTo}
use Rattle.directories.specs.Formatting.{OfLines}
use Rattle.directories.proofs.formatting.clear_words.Given as goal

abbrev pub invariant-loop-word : goal.invariant-loop-word
invariant-loop-word g l = record {
  shows : (w : ℕ) → w < l.word → shown l.memory l.line w ≡ 0;
  changes : ChangesTo (OfLines l.line (l.line + 1)) l.fn.memory l.memory;
  resident : SameResident l.fn.memory l.memory;
  same : SameImage l.fn.memory l.memory;
}
