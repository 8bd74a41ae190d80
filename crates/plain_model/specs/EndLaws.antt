-- What is used up where a run is full: a region's log, the monitors, the image's lines; and what requests
-- of code may name.
use Rattle.std.specs.Prelude.{◌≡◌, ◌≢◌, ℕ, ◌≤◌, true, false, List, length, Option, None}
use Rattle.ap_base.specs.declared.place.Place.{Place}
use Rattle.run_types.specs.declared.fault.RunFault.{RunFault}
use Rattle.run_types.specs.declared.fault.RunFault.TheVariants as fault
use Rattle.run_types.specs.declared.fault.Which.TheVariants as which
use Rattle.graph_model.specs.declared.types.Value.{Value}
use Rattle.graph_model.specs.declared.types.Graph.{Graph}
use Rattle.graph_model.specs.Heaps.{has_number}
use Rattle.run_history.specs.declared.act.PlainKey.{PlainKey}
use Rattle.run_history.specs.declared.act.Op.TheVariants as op
use Rattle.run_history.specs.Recorded.{Recorded}
use Rattle.run_history.specs.Worlds.{depth_of, held}
use Rattle.run_history.specs.Knowing.{Knowledge, durable_at}
use Rattle.plain_model.specs.Facts.{SetFacts}
use Rattle.plain_model.specs.Requests.{PlainRequest}
use Rattle.plain_model.specs.Codes.{Code}
use Rattle.plain_model.specs.Runs.{IsAbout, is_volatile, has_guarded, known_of, wants_of}
use Rattle.plain_model.specs.Limits.{guards_of}
use Rattle.plain_model.specs.Causes.{FillsLog, FillsMonitors}
use Rattle.plain_model.specs.Ends.{FillsImage}

abbrev pub full_log : RunFault
full_log = fault.Full (record { which = which.LogEntries; need = 1; left = 0 })

abbrev pub full_monitors : RunFault
full_monitors = fault.Full (record { which = which.Monitors; need = 1; left = 0 })

-- A region's log is full where its thread has guarded 1,024 places, and not before.
pub record LogsHold1024 : Type 0 where
  pub full : (set : SetFacts) (known : Knowledge) (request : Option PlainRequest) (t : ℕ) (f : RunFault)
      → FillsLog set known request t f → (1024 ≤ length (guards_of known.guards t)) × (f ≡ full_log)
  pub comes : (set : SetFacts) (known : Knowledge) (request : Option PlainRequest) (t : ℕ) (place : Place)
      (value : Value) → IsAbout set known request t (op.Stored place value) → durable_at known place ≡ true
      → is_volatile known.durable value ≡ false
      → depth_of known.world t ≢ 0 → has_guarded known t place ≡ false
      → 1024 ≤ length (guards_of known.guards t) → FillsLog set known request t full_log

-- 4,096 monitors may be held, and no further one.
pub record MonitorsAre4096 : Type 0 where
  pub full : (set : SetFacts) (known : Knowledge) (request : Option PlainRequest) (t : ℕ) (f : RunFault)
      → FillsMonitors set known request t f → (4096 ≤ length known.world.monitors) × (f ≡ full_monitors)
  pub comes : (set : SetFacts) (known : Knowledge) (request : Option PlainRequest) (t : ℕ) (key : PlainKey)
      → IsAbout set known request t (op.Enter key) → held known.world.monitors key ≡ None
      → 4096 ≤ length known.world.monitors → FillsMonitors set known request t full_monitors

-- Where the image's lines are used up, it's for an object that the thread wants and that isn't durable yet.
abbrev pub LinesAreForWanted : Type 0 → Type 0
LinesAreForWanted Frames = (set : SetFacts) (main : ℕ) (opening : Graph) (code : Code set main opening Frames)
    (lines : ℕ) (acts : List Recorded) (t : ℕ) (f : RunFault)
    → let known = known_of set main opening code acts in let wants = wants_of set main opening code acts in
    FillsImage opening lines known wants t f → (n : ℕ) × wants t n × (has_number known.durable n ≡ false)
