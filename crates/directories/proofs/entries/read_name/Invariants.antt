-- The bytes so far, and those that the rest gives, are those of all words.
use Rattle.std.proofs.Common.{◌≡◌, ◌++◌, drop}
use Rattle.image_meaning.specs.Entries.{name_from}
use Rattle.directories.proofs.entries.read_name.Given as goal

abbrev pub invariant-loop-word : goal.invariant-loop-word
invariant-loop-word l = l.bytes.items ++ name_from l.left (drop l.word-index l.words) ≡ name_from l.len l.words
