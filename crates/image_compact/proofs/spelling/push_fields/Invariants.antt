-- The words of the fields so far are there.
use Rattle.std.proofs.Common.{◌≡◌, ◌++◌, take}
use Rattle.image_meaning.specs.Entries.{fields_words}
use Rattle.image_compact.proofs.spelling.push_fields.Given as goal

abbrev pub invariant-loop-field : goal.invariant-loop-field
invariant-loop-field l = l.words.items ≡ l.fn.words.items ++ fields_words (take l.field-index l.fields)
