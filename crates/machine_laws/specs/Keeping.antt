-- Each event of a machine leads from a run that is kept to one that is kept; and so each stop is allowed.
use Rattle.std.specs.Prelude.{◌≡◌, List}
use Rattle.line_memory.specs.Memory.{IsTelling}
use Rattle.stop_theorem.specs.Running.{StopsAreAllowed}
use Rattle.shared_objects.specs.Worlds.{world_of}
use Rattle.twin_forms.specs.Table.{Entry}
use Rattle.machine_forms.specs.Machines.{Opening, Machine, first_of, known_in, roots_in, shown_in, state_in}
use Rattle.machine_forms.specs.Keeping.{KeepsRun}
use Rattle.machine_forms.specs.Happening.{OfEvents}

-- of every machine that keeps its run
abbrev pub OfRuns : (Opening → Machine → List Entry → Type 0) → Type 0
OfRuns P = (o : Opening) (m : Machine) (es : List Entry) → KeepsRun o m es → P o m es

abbrev pub EventsKeepRuns : Type 0
EventsKeepRuns = OfEvents (λ o m es m' es'. KeepsRun o m' es')

-- ---- what that is for

-- Over an image that tells what is done to it: a stop within a call leaves an image with the directory of the run's
-- opening, and what the acts before that call allow; a stop now leaves one so that all acts allow.
abbrev pub EachStopIsAllowed : Type 0
EachStopIsAllowed = OfRuns (λ o m es. IsTelling o.start.image.trace
    → StopsAreAllowed (first_of o) o.start.size o.directory o.begin o.start (state_in o m es))

-- What heap and threads show is the world of the acts.
abbrev pub MachinesShowTheirWorld : Type 0
MachinesShowTheirWorld =
    OfRuns (λ o m es. (known_in o m).world ≡ world_of (roots_in o m) (shown_in m) m.rest)
