use Rattle.directories.proofs.SmallSet.{small_set_has_entries, shapes_agree}
use Rattle.directories.proofs.laws.a_small_set_has_its_entries.Goals as goal

pub returns : goal.returns
returns c = record { entries = small_set_has_entries; agree = shapes_agree }
