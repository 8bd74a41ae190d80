-- The words of the fields so far.
use Rattle.std.proofs.Common.{◌≡◌, ◌-◌, ◌^◌, length, take, min}
use Rattle.image_meaning.specs.Entries.{fields_words}
use Rattle.image_compact.proofs.spelling.fields_length.Given as goal

abbrev pub invariant-loop-field : goal.invariant-loop-field
invariant-loop-field l = l.count ≡ min (length (fields_words (take l.field-index l.fields))) (2 ^ 64 - 1)
