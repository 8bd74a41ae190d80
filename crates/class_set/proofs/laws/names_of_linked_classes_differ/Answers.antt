use Rattle.class_set.proofs.Differ.{names_differ}
use Rattle.class_set.proofs.Kept.{all_small}
use Rattle.class_set.proofs.laws.names_of_linked_classes_differ.Goals as goal

pub returns : goal.returns
returns c = λ files readable links. names_differ files (all_small files readable) links.supers.0.0
