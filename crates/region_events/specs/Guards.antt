-- What a thread's log says of its region: the words of the places that the region has guarded, the last of
-- them maybe not logged yet (Shull, Huang and Torrellas, "AutoPersist", PLDI 2019, failure-atomic regions).
use Rattle.std.specs.Prelude.{◌≡◌, ℕ, ◌+◌, true, [], length, Some, if◌then◌else◌}
use Rattle.ap_base.specs.declared.place.Place.{Place}
use Rattle.ap_base.specs.declared.place.Spot.{Spot}
use Rattle.graph_model.specs.Heaps.{has_number}
use Rattle.line_memory.specs.Memory.{Memory, shown, IsTelling}
use Rattle.run_history.specs.Worlds.{depth_of}
use Rattle.run_history.specs.Knowing.{Knowledge, guard_of, has_guards}
use Rattle.plain_model.specs.Limits.{guards_of}
use Rattle.stop_theorem.specs.Layouts.{Layout, is_kept_place}
use Rattle.stop_theorem.specs.Stops.{Stands}
use Rattle.stop_theorem.specs.InvariantEvents.{line_at, word_at}
use Rattle.stop_theorem.specs.Running.{State, known_at}
use Rattle.region_log.specs.declared.entry.Underway.{Underway}
use Rattle.region_log.specs.declared.entry.Underway.TheVariants.{Nothing, Adding, Ending}
use Rattle.region_log.specs.Guarding.{IsGuarded, has_guarded, is_adding, is_closing}
use Rattle.region_log.specs.Log.{Log}
use Rattle.region_log.specs.Kept.{KeepsLog, KeepsRegion}

-- ---- what is known

-- the word of a place
pub record IsWordOf (known : Knowledge) (lay : Layout) (spot : Spot) (p : Place) : Type 0 where
  pub line : spot.line ≡ line_at lay known p
  pub word : spot.word ≡ word_at known p

-- a durable place that thread t's region has guarded, and hasn't ended
pub record IsGuardedPlace (known : Knowledge) (t : ℕ) (p : Place) : Type 0 where
  pub is_kept : is_kept_place known p ≡ true
  pub guard : guard_of known.guards p ≡ Some t

-- how many words the log names, with the one that it is about to
abbrev pub named_count : Log → ℕ
named_count log = length log.entries + (if is_adding log.underway then 1 else 0)

-- The log's thread has as many regions open as the acts say, and its region is closing where they say so. The
-- words that its log names, or is about to, are those of the places that it has guarded, as many.
pub record KeepsGuards (known : Knowledge) (lay : Layout) (log : Log) : Type 0 where
  pub depth : log.depth ≡ depth_of known.world log.thread
  pub closing : is_closing log.underway ≡ has_number known.closing log.thread
  pub some : has_guarded log ≡ has_guards known.guards log.thread
  pub count : length (guards_of known.guards log.thread) ≡ named_count log
  -- outside regions nothing is logged
  pub outside : log.depth ≡ 0 → (log.entries ≡ []) × (log.underway ≡ Nothing)
  pub guarded : (p : Place) → guard_of known.guards p ≡ Some log.thread
      → (is_kept_place known p ≡ true) × (spot : Spot) × IsWordOf known lay spot p × IsGuarded log spot
  pub places : (spot : Spot) → IsGuarded log spot
      → (p : Place) × IsWordOf known lay spot p × IsGuardedPlace known log.thread p

-- The entry that is being added has the word that is shown.
abbrev pub HasOld : Underway → Memory → Type 0
HasOld Nothing m = Unit {0}
HasOld (Adding e stage) m = e.old ≡ shown m e.spot.line e.spot.word
HasOld (Ending stage) m = Unit {0}

-- ---- at a point of a run

-- A thread's log at a point of a run over an image that tells what is done to it: the memory keeps it, and it
-- is what the acts say of the thread's region.
pub record StandsWith (first : Knowledge) (log : Log) (s : State) : Type 0 where
  pub stands : Stands first.world.heap (known_at first s) s.layout s.waits s.memory
  pub telling : IsTelling s.memory.image.trace
  pub guards : KeepsGuards (known_at first s) s.layout log
  pub keeps : KeepsLog log s.memory
  pub region : KeepsRegion log s.memory
  pub old : HasOld log.underway s.memory
