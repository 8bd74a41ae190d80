-- The words so far are read.
use Rattle.std.proofs.Common.{◌≡◌, ◌<◌, ℕ, length}
use Rattle.std.specs.Prelude.{slice_index}
use Rattle.line_memory.specs.Memory.{shown}
use Rattle.image_recovery.proofs.superblock.read_first_line.Given as goal

abbrev pub invariant-loop-word : goal.invariant-loop-word
invariant-loop-word g l = record {
  count : length l.words ≡ 8;
  reads : (w : ℕ) → w < l.word → slice_index l.words w ≡ shown l.memory 0 w;
}
