use Rattle.directories.proofs.Continuing.{read_continue, planned_continue}
use Rattle.directories.proofs.laws.entries_continue.Goals as goal

pub returns : goal.returns
returns c = record { read = read_continue; planned = planned_continue }
