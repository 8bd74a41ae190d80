-- The words so far, and those still to come, are those of the whole name.
use Rattle.std.proofs.Common.{◌≡◌, ◌*◌, ◌-◌, ◌++◌, drop}
use Rattle.image_meaning.specs.Entries.{name_words, some_words}
use Rattle.image_compact.proofs.spelling.push_name.Given as goal

abbrev pub invariant-loop-i : goal.invariant-loop-i
invariant-loop-i l = l.words.items ++ some_words (l.count - l.i) (drop (8 * l.i) l.name) ≡ l.fn.words.items ++ name_words l.name
