-- The words of the roots so far.
use Rattle.std.proofs.Common.{◌≡◌, map, take}
use Rattle.image_compact.specs.Planning.{root_word_by}
use Rattle.image_compact.proofs.values.slot_words.Given as goal

abbrev pub invariant-loop-root : goal.invariant-loop-root
invariant-loop-root l = l.words.items ≡ map (root_word_by l.lines) (take l.root-index l.roots)
