-- How logs stand at the start of a run, and that a place is guarded in some run.
use Rattle.std.specs.Prelude.{◌≡◌, ◌<◌, ℕ, false, []}
use Rattle.ap_base.specs.declared.place.Place.TheVariants.{Static}
use Rattle.graph_model.specs.Heaps.{has_number}
use Rattle.image_layout.specs.Places.{logs}
use Rattle.line_memory.specs.Memory.{Memory, IsTelling}
use Rattle.run_history.specs.Worlds.{depth_of}
use Rattle.run_history.specs.Knowing.{Knowledge, has_guards}
use Rattle.stop_theorem.specs.Layouts.{Layout}
use Rattle.stop_theorem.specs.Starts.{Starts}
use Rattle.stop_theorem.specs.WrongOrders.{nodes_known}
use Rattle.stop_theorem.specs.Running.{State, at_start}
use Rattle.region_log.specs.declared.entry.Entry.{Entry}
use Rattle.region_log.specs.declared.entry.EntryStage.TheVariants.{Begun}
use Rattle.region_log.specs.declared.entry.Underway.TheVariants.{Nothing, Adding}
use Rattle.region_log.specs.Log.{Log}
use Rattle.region_events.specs.Guards.{IsWordOf, StandsWith}

abbrev pub empty_log : ℕ → Log
empty_log t = record { thread = t; depth = 0; entries = []; underway = Nothing }

-- no region of the thread is open
pub record HasNoRegion (known : Knowledge) (t : ℕ) : Type 0 where
  pub outside : depth_of known.world t ≡ 0
  pub no_guards : has_guards known.guards t ≡ false
  pub not_closing : has_number known.closing t ≡ false

-- Where a run starts, the empty log of a thread stands.
abbrev pub EmptyLogsStand : Type 0
EmptyLogsStand = (first : Knowledge) (lay : Layout) (m : Memory) (t : ℕ) → Starts first lay m
    → IsTelling m.image.trace → t < logs → HasNoRegion first t
    → StandsWith first (empty_log t) (at_start lay m)

-- In a run over the memory of three nodes thread 0 begins a region and guards the root, whose entry is then
-- under way.
pub record OneEntryIsUnderWay : Type 0 where
  pub state : State
  pub log : Log
  pub entry : Entry
  pub underway : log.underway ≡ Adding entry Begun
  pub word : IsWordOf nodes_known state.layout entry.spot (Static 0)
  pub stands : StandsWith nodes_known log state
