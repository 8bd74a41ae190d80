use Rattle.class_set.specs.declared.arrays.Listed.TheVariants.{Needed}
use Rattle.class_set.specs.ArrayTypes.{linked_from, listed_arrays}
use Rattle.class_set.proofs.Constants.{kinds_of_statics}
use Rattle.class_set.proofs.Described.{described_types}
use Rattle.class_set.proofs.Differ.{listed_are_arrays}
use Rattle.class_set.proofs.Program.{program_classes}
use Rattle.class_set.proofs.Consistency.{complete_from, linked_is, no_circle_in, set_consistent}
use Rattle.class_set.proofs.laws.linked_classes_are_consistent.Goals as goal

pub returns : goal.returns
returns c = record {
  classes = λ files links. program_classes (linked_from files) links;
  no_circle = λ files n links l. no_circle_in (linked_from files) links n l;
  arrays = λ files. described_types (linked_from files) (listed_arrays Needed files) (listed_are_arrays Needed files);
  kinds = kinds_of_statics;
  complete = λ files links. complete_from files links;
  consistent = λ files readable links. set_consistent (linked_from files) (linked_is files readable links);
}
