use Rattle.std.proofs.Common.{◌≡◌, ◌++◌, drop}
use Rattle.class_set.specs.Literals.{index_or_none, indices_from, words_before}
use Rattle.class_set.proofs.literals.literal_indices.Given as goal

abbrev pub invariant-loop-text : goal.invariant-loop-text
invariant-loop-text l = record {
  next : l.index ≡ index_or_none (words_before l.texts l.text-index);
  indices : l.indices.items ++ indices_from (words_before l.texts l.text-index) (drop l.text-index l.text-items) ≡ indices_from 6 l.texts;
}
