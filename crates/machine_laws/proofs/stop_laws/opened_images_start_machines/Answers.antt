use Rattle.machine_laws.proofs.Opened.{opened_start}
use Rattle.machine_laws.proofs.stop_laws.opened_images_start_machines.Goals as goal

pub returns : goal.returns
returns c = opened_start
