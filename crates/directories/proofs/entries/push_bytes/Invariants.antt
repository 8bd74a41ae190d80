-- The bytes so far, and those still to come, are those of the whole word.
use Rattle.std.proofs.Common.{◌≡◌, ◌-◌, ◌++◌}
use Rattle.image_meaning.specs.Entries.{bytes_of_word}
use Rattle.directories.proofs.entries.push_bytes.Given as goal

abbrev pub invariant-loop-i : goal.invariant-loop-i
invariant-loop-i l = l.bytes.items ++ bytes_of_word (l.count - l.i) l.rest ≡ l.fn.bytes.items ++ bytes_of_word l.count l.word
