-- A thread that isn't converting has asked nothing.
use Rattle.std.proofs.Common.{◌≡◌, ℕ, List, None}
use Rattle.run_history.specs.Knowing.{Knowledge, pending_of}
use Rattle.stop_theorem.specs.Layouts.{Layout}
use Rattle.twin_forms.specs.Table.{Entry}
use Rattle.machine_threads.specs.Passed.{Doing}
use Rattle.machine_threads.specs.Passed.{Nothing, Converting, Writing, Fencing}
use Rattle.machine_threads.specs.Passed.{Opening, Machine, known_in, doing_of, layout_in}
use Rattle.machine_threads.specs.Passed.{IsDoing, KeepsRun}

abbrev pub IsIdle : Doing → Type 0
IsIdle Converting = ⊥
IsIdle Nothing = Unit {0}
IsIdle (Writing line) = Unit {0}
IsIdle Fencing = Unit {0}

-- a thread that isn't converting has asked nothing
none-asked : (known : Knowledge) (lay : Layout) (t : ℕ) (d : Doing) → IsIdle d → IsDoing known lay t d
    → pending_of known.asked t ≡ None
none-asked known lay t Nothing idle doing = doing.0
none-asked known lay t Converting idle doing = absurd idle
none-asked known lay t (Writing line) idle doing = doing.0
none-asked known lay t Fencing idle doing = doing.0

pub idle-asks : (o : Opening) (m : Machine) (es : List Entry) (t : ℕ) → KeepsRun o m es → IsIdle (doing_of m t)
    → pending_of (known_in o m).asked t ≡ None
idle-asks o m es t k idle = none-asked (known_in o m) (layout_in o es) t (doing_of m t) idle (k.asked.doing t)
