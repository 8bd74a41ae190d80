use Rattle.directories.proofs.ClassSetEntries.{entries_can}
use Rattle.directories.proofs.laws.class_set_entries_can_be_planned.Goals as goal

pub returns : goal.returns
returns c = entries_can
