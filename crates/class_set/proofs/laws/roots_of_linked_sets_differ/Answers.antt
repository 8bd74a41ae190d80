use Rattle.class_set.proofs.RootsApart.{roots_differ}
use Rattle.class_set.proofs.laws.roots_of_linked_sets_differ.Goals as goal

pub returns : goal.returns
returns c = roots_differ
