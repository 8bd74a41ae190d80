-- What a store of a thread meets where regions may be open, as the threads' logs tell.
use Rattle.std.specs.Prelude.{◌≡◌, ℕ, ◌<◌, ◌≤◌, true, false, Some, None}
use Rattle.ap_base.specs.declared.place.Place.{Place}
use Rattle.graph_model.specs.declared.types.Value.{Value}
use Rattle.region_log.specs.Log.{most_entries}
use Rattle.run_history.specs.declared.act.Op.{Op}
use Rattle.run_history.specs.declared.act.Op.TheVariants as op
use Rattle.run_history.specs.Knowing.{durable_at, guard_of}
use Rattle.plain_model.specs.Runs.{is_volatile}
use Rattle.region_events.specs.Guards.{named_count}
use Rattle.machine_laws.specs.Passed.{Opening, Machine, known_in, log_of}

-- A store of thread t to a place that isn't durable, or that its own region has guarded; or that nobody has,
-- where no region of it is open, the value isn't durable yet, or its log has room.
pub data StoresFreely (o : Opening) (m : Machine) (t : ℕ) (place : Place) (value : Value) : Type 0 where
  beside : durable_at (known_in o m) place ≡ false → StoresFreely o m t place value
  own : guard_of (known_in o m).guards place ≡ Some t → StoresFreely o m t place value
  outside : guard_of (known_in o m).guards place ≡ None → (log_of m t).depth ≡ 0
      → StoresFreely o m t place value
  volatile : guard_of (known_in o m).guards place ≡ None
      → is_volatile (known_in o m).durable value ≡ true → StoresFreely o m t place value
  room : guard_of (known_in o m).guards place ≡ None → named_count (log_of m t) < most_entries
      → StoresFreely o m t place value

-- It is no store, or such a one.
abbrev pub IsFreeOp : Opening → Machine → ℕ → Op → Type 0
IsFreeOp o m t (op.Stored place value) = StoresFreely o m t place value
IsFreeOp o m t operation = Unit {0}

-- In its open region thread t would store a durable value to a durable place that nobody has guarded, and its
-- log is full.
pub record FillsLogOf (o : Opening) (m : Machine) (t : ℕ) (place : Place) (value : Value) : Type 0 where
  pub is_open : 0 < (log_of m t).depth
  pub full : most_entries ≤ named_count (log_of m t)
  pub durable : durable_at (known_in o m) place ≡ true
  pub unguarded : guard_of (known_in o m).guards place ≡ None
  pub kept : is_volatile (known_in o m).durable value ≡ false
