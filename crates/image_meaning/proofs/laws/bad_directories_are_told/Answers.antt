use Rattle.image_meaning.proofs.Directories.{bad_directories}
use Rattle.image_meaning.proofs.laws.bad_directories_are_told.Goals as goal

pub returns : goal.returns
returns c = bad_directories
