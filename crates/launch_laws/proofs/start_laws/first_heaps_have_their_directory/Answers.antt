use Rattle.launch_laws.proofs.Tables.{made_has_directory}
use Rattle.launch_laws.proofs.start_laws.first_heaps_have_their_directory.Goals as goal

pub returns : goal.returns
returns c = made_has_directory
