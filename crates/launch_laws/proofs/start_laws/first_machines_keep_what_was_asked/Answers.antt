use Rattle.launch_laws.proofs.Stops.{asked_kept}
use Rattle.launch_laws.proofs.start_laws.first_machines_keep_what_was_asked.Goals as goal

pub returns : goal.returns
returns c o lines m es first =
    asked_kept o lines m es first c.machines_start_with_nothing_asked.ensures.starts
