-- A machine over an image that was opened.
use Rattle.std.proofs.Common.{[], refl}
use Rattle.stop_theorem.specs.Choices.{NoThread}
use Rattle.stop_theorem.proofs.Running.{run_starts}
use Rattle.machine_forms.specs.Machines.{first_of, memory_of, layout_in, waits_in}
use Rattle.machine_laws.specs.StopLaws.{StartsKeepStops}
use Rattle.machine_laws.proofs.StopMoving.{moved}
use Rattle.machine_laws.proofs.Waiting.{no_waits}

pub starts_keep : StartsKeepStops
starts_keep o m es none same waits starts counts told =
    moved o [] m.acts (layout_in o es) (layout_in o es) NoThread (waits_in m) o.start (memory_of m) none refl
    (no_waits m.doing waits) same
    (run_starts (first_of o) (layout_in o es) o.begin o.start starts told counts)
