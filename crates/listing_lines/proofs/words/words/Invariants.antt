use Rattle.std.proofs.Common.{◌≡◌, ◌++◌, drop}
use Rattle.listing_lines.specs.Words.{words_from, words}
use Rattle.listing_lines.proofs.words.words.Given as goal

abbrev pub invariant-loop-b : goal.invariant-loop-b
invariant-loop-b l = l.words.items ++ words_from l.mode l.word.items (drop l.b-index l.line) ≡ words l.line
