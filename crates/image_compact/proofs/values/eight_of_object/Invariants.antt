-- The words so far.
use Rattle.std.proofs.Common.{◌≡◌, ◌<◌, ◌+◌, ◌*◌, ◌∷◌, ℕ, length, map, slice_index_or}
use Rattle.image_compact.specs.Planning.{word_by}
use Rattle.image_compact.proofs.values.eight_of_object.Given as goal

abbrev pub invariant-loop-w : goal.invariant-loop-w
invariant-loop-w l = record {
  eight : length l.words ≡ 8;
  each : (k : ℕ) → k < l.w
      → slice_index_or l.words k 0 ≡ slice_index_or (l.head ∷ map (word_by l.lines) l.values) (8 * l.line + k) 0;
}
