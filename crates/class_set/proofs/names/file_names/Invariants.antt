use Rattle.std.proofs.Common.{◌≡◌, ◌≤◌, [], map, drop, length}
use Rattle.text_table.specs.Texts.{with_texts}
use Rattle.class_links.specs.Names.{name_of}
use Rattle.class_set.proofs.names.file_names.Given as goal

abbrev pub invariant-loop-file : goal.invariant-loop-file
invariant-loop-file l = record {
  names : with_texts l.names (map name_of (drop l.file-index l.files)) ≡ with_texts [] (map name_of l.files);
  few : length l.names ≤ l.file-index;
}
