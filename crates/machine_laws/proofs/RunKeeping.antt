-- Whatever a machine that keeps its run does, each stop is allowed.
use Rattle.stop_theorem.specs.Running.{RunningStopsAreAllowed}
use Rattle.machine_forms.specs.Machines.{first_of, state_in}
use Rattle.machine_laws.specs.Keeping.{EachStopIsAllowed, MachinesShowTheirWorld}

pub stops-allowed : RunningStopsAreAllowed → EachStopIsAllowed
stops-allowed law o m es run told =
    law (first_of o) o.start.size o.directory o.begin o.start (state_in o m es) (run.stops told)

pub world-shown : MachinesShowTheirWorld
world-shown o m es run = run.world.world
