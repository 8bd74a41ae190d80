-- The number of the last bytes.
use Rattle.std.proofs.Common.{◌≡◌, ◌-◌, length, drop}
use Rattle.image_meaning.specs.Entries.{word_of_bytes}
use Rattle.image_compact.proofs.spelling.word_of.Given as goal

abbrev pub invariant-loop-i : goal.invariant-loop-i
invariant-loop-i l = l.word ≡ word_of_bytes (drop (length l.bytes - l.i) l.bytes)
