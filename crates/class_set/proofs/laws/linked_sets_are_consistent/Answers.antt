use Rattle.class_set.proofs.Consistency.{array_linked, linked_is, set_consistent}
use Rattle.class_set.proofs.laws.linked_sets_are_consistent.Goals as goal

pub returns : goal.returns
returns c = record { linked = linked_is; with_array = array_linked; consistent = set_consistent }
