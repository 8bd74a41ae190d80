use Rattle.launch_laws.proofs.Stops.{stops_kept}
use Rattle.launch_laws.proofs.start_laws.first_machines_keep_stops.Goals as goal

pub returns : goal.returns
returns c o lines m es first = stops_kept o lines m es first c.machines_start_with_allowed_stops.ensures
    c.opened_images_start_machines.ensures
