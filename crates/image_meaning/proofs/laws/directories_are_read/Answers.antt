use Rattle.image_meaning.proofs.Directories.{entries-again, entries-taken}
use Rattle.image_meaning.proofs.laws.directories_are_read.Goals as goal

pub returns : goal.returns
returns c = record { again = entries-again; taken = entries-taken }
