use Rattle.std.proofs.Common.{◌≡◌, drop}
use Rattle.std.specs.List.{flat_map}
use Rattle.std.specs.Option.{option_to_list}
use Rattle.const_pool.specs.Pool.{string_of}
use Rattle.text_table.specs.Texts.{with_texts}
use Rattle.class_set.specs.Literals.{strings_of}
use Rattle.class_set.specs.Marks.{AreAdded}
use Rattle.class_set.proofs.literals.add_strings.Given as goal

abbrev pub invariant-loop-index : goal.invariant-loop-index
invariant-loop-index l = record {
  texts : with_texts l.texts (flat_map (λ slot. option_to_list (string_of l.pool slot)) (drop l.index l.pool))
      ≡ with_texts l.fn.texts (strings_of l.pool);
  added : AreAdded l.pool l.texts l.added.items;
}
