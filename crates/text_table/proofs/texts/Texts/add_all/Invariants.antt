use Rattle.std.proofs.Common.{◌≡◌, drop, length, map, take}
use Rattle.text_table.specs.Texts.{with_texts}
use Rattle.text_table.specs.Sorted.{items_of}
use Rattle.text_table.proofs.texts.Texts.add_all.Given as goal

abbrev pub invariant-loop-text : goal.invariant-loop-text
invariant-loop-text l = record {
  first : l.self ≡ with_texts l.fn.self (take (length l.yielded) l.texts);
  left : drop (length l.yielded) l.texts ≡ map items_of l.text-iterator;
}
