-- The shapes and roots so far, and what the rest gives, are those of all words.
use Rattle.std.proofs.Common.{◌≡◌, ◌≤◌, ◌-◌, ℕ, length, drop}
use Rattle.image_meaning.specs.Directories.{no_entries, with_entries}
use Rattle.directories.specs.Names.{AreNamesOf}
use Rattle.directories.proofs.reading.parse.Given as goal

abbrev pub decreases-loop-at : goal.decreases-loop-at
decreases-loop-at l = length l.words - l.at

abbrev pub invariant-loop-at : goal.invariant-loop-at
invariant-loop-at l = record {
  within : l.at ≤ length l.words;
  names : AreNamesOf (record { shapes = l.shapes.items; roots = l.roots.items }) l.names;
  most : (n : ℕ) × (length l.words - l.at ≤ n)
      × (with_entries n l.at (record { shapes = l.shapes.items; roots = l.roots.items }) (drop l.at l.words)
      ≡ with_entries (length l.words) 0 no_entries l.words);
}
