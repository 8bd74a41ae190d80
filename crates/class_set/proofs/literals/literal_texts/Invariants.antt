use Rattle.std.proofs.Common.{◌≡◌, drop}
use Rattle.std.specs.List.{flat_map}
use Rattle.text_table.specs.Texts.{with_texts}
use Rattle.class_set.specs.Literals.{strings_in, texts_of}
use Rattle.class_set.proofs.literals.literal_texts.Given as goal

abbrev pub invariant-loop-file : goal.invariant-loop-file
invariant-loop-file l = with_texts l.texts (flat_map strings_in (drop l.file-index l.files)) ≡ texts_of l.files
