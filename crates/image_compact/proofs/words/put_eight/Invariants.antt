-- The words so far are put.
use Rattle.std.proofs.Common.{◌≡◌, ◌<◌, ℕ, slice_index_or}
use Rattle.line_memory.specs.Memory.{shown, SameResident, SameImage}
use Rattle.word_changes.specs.Changes.{ChangesTo}
use Rattle.image_compact.specs.Writing.{OfWords}
use Rattle.image_compact.proofs.words.put_eight.Given as goal

abbrev pub invariant-loop-word : goal.invariant-loop-word
invariant-loop-word g l = record {
  shows : (w : ℕ) → w < l.word → shown l.memory l.line w ≡ slice_index_or l.words w 0;
  changes : ChangesTo (OfWords l.words l.line 1) l.fn.memory l.memory;
  resident : SameResident l.fn.memory l.memory;
  same : SameImage l.fn.memory l.memory;
}
