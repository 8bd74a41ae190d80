-- The fields so far, and those that the rest gives, are those of all words.
use Rattle.std.proofs.Common.{◌≡◌, ◌++◌}
use Rattle.image_meaning.specs.Entries.{fields_from}
use Rattle.directories.proofs.entries.read_fields.Given as goal

abbrev pub decreases-loop-left : goal.decreases-loop-left
decreases-loop-left l = l.left

abbrev pub invariant-loop-left : goal.invariant-loop-left
invariant-loop-left l = l.fields.items ++ fields_from l.left l.rest ≡ fields_from l.count l.words
