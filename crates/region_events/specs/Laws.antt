-- What a thread's region does is an event of the stop theorem, or a few: its begin, a place that it guards,
-- each call of its log, a store, its closing and its end. After each its log is what the acts say again.
use Rattle.std.specs.Prelude.{◌≡◌, ◌⊎◌, ◌<◌, ◌≤◌, ◌+◌, ◌-◌, ◌^◌, min, ℕ, true, false, [], length, Some, None}
use Rattle.ap_base.specs.declared.place.Place.{Place}
use Rattle.graph_model.specs.declared.types.Value.{Value}
use Rattle.line_memory.specs.Memory.{Memory, shown, SameImage, OneCall}
use Rattle.line_memory.specs.Moments.{KeepsShown}
use Rattle.run_history.specs.declared.act.Op.TheVariants as op
use Rattle.run_history.specs.Knowing.{Knowledge, guard_of, owes_fence}
use Rattle.stop_theorem.specs.Layouts.{Layout, is_kept_place}
use Rattle.stop_theorem.specs.Conditions.{StoresAt}
use Rattle.stop_theorem.specs.Running.{State, Events, known_at, with_act, with_memory}
use Rattle.region_log.specs.declared.entry.Entry.{Entry}
use Rattle.region_log.specs.declared.entry.EntryStage.{EntryStage}
use Rattle.region_log.specs.declared.entry.EntryStage.TheVariants.{Begun}
use Rattle.region_log.specs.declared.entry.Underway.TheVariants.{Nothing, Adding}
use Rattle.region_log.specs.Log.{Log, most_entries}
use Rattle.region_log.specs.Kept.{KeepsRegion}
use Rattle.region_log.specs.Stages.{CanEnd, EndsAtOnce}
use Rattle.region_log.specs.Steps.{StepsOn, TouchesFor, AddsOn, AddsEntry, FailsToAdd, TouchesToEnd, EndsOn, FencesRegion}
use Rattle.region_log.specs.Steps.{EndsLog, FailsToEnd}
use Rattle.region_events.specs.Guards.{IsWordOf, StandsWith}

-- Events lead to a state with which this log stands.
pub record GoesWith (first : Knowledge) (log : Log) (s s' : State) : Type 0 where
  pub events : Events first s s'
  pub stands : StandsWith first log s'

-- of every log that stands with a state
abbrev pub OfLogs : (Knowledge → Log → State → Type 0) → Type 0
OfLogs P = (first : Knowledge) (log : Log) (s : State) → StandsWith first log s → P first log s

-- ---- a region begins

abbrev pub one_deeper : Log → Log
one_deeper log = record log { depth = min (log.depth + 1) (2 ^ 32 - 1) }

-- The thread is there, and fewer regions are open than can be counted.
pub record MayBegin (known : Knowledge) (log : Log) : Type 0 where
  pub idle : log.underway ≡ Nothing
  pub room : log.depth < 2 ^ 32 - 1
  pub there : log.thread < length known.world.threads

abbrev pub BeginsAreEvents : Type 0
BeginsAreEvents = OfLogs (λ first log s. MayBegin (known_at first s) log
    → GoesWith first (one_deeper log) s (with_act s log.thread op.Begin []))

-- ---- a place is guarded and logged

-- The place is durable, and nobody has guarded it; the entry has its word, as that is shown. There is room.
pub record MayBeGuarded (known : Knowledge) (lay : Layout) (m : Memory) (log : Log) (e : Entry) (p : Place)
    : Type 0 where
  pub is_open : 0 < log.depth
  pub idle : log.underway ≡ Nothing
  pub room : length log.entries < most_entries
  pub is_kept : is_kept_place known p ≡ true
  pub unguarded : guard_of known.guards p ≡ None
  pub word : IsWordOf known lay e.spot p
  pub old : e.old ≡ shown m e.spot.line e.spot.word

abbrev pub with_entry : Log → Entry → Log
with_entry log e = record log { underway = Adding e Begun }

abbrev pub GuardsAreEvents : Type 0
GuardsAreEvents = OfLogs (λ first log s. (e : Entry) (p : Place)
    → MayBeGuarded (known_at first s) s.layout s.memory log e p
    → GoesWith first (with_entry log e) s (with_act s log.thread (op.Guarded p) []))

-- A call that logs a word, made or failed, as the log's contract says.
pub record LogsOn (log log' : Log) (e : Entry) (old new : Memory) : Type 0 where
  pub adding : (stage : EntryStage) × (log.underway ≡ Adding e stage)
  pub went : TouchesFor e log log' old new ⊎ (AddsOn e log log' old new
      ⊎ (AddsEntry e log log' old new ⊎ FailsToAdd e log log' old new))
  pub steps : StepsOn log log' old new
  pub call : OneCall old new
  pub later : old.calls ≤ new.calls

abbrev pub LoggingIsEvents : Type 0
LoggingIsEvents = OfLogs (λ first log s. (log' : Log) (e : Entry) (new : Memory)
    → LogsOn log log' e s.memory new → GoesWith first log' s (with_memory s new))

-- ---- a region stores

-- The place's word is logged, the thread owes no fence, and the value is stored there.
pub record StoresInRegion (known : Knowledge) (lay : Layout) (log : Log) (old new : Memory) (p : Place)
    (v : Value) (x : ℕ) : Type 0 where
  pub idle : log.underway ≡ Nothing
  pub guard : guard_of known.guards p ≡ Some log.thread
  pub owes_none : owes_fence known.unfenced log.thread ≡ false
  pub stores : StoresAt known lay old new p v x

abbrev pub StoresAreEvents : Type 0
StoresAreEvents = OfLogs (λ first log s. (new : Memory) (p : Place) (v : Value) (x : ℕ)
    → StoresInRegion (known_at first s) s.layout log s.memory new p v x
    → GoesWith first log s (with_act (with_memory s new) log.thread (op.Stored p v) []))

-- ---- a region ends

-- A call that ends a region, as the log's contract says.
pub record CallsToEnd (log log' : Log) (old new : Memory) : Type 0 where
  pub can : CanEnd log.underway
  pub steps : StepsOn log log' old new
  pub region : KeepsRegion log old → KeepsRegion log' new
  pub call : OneCall old new
  pub later : old.calls ≤ new.calls

-- It was made or failed, and neither is the fence behind all logged lines nor the last one.
abbrev pub EndingIsEvents : Type 0
EndingIsEvents = OfLogs (λ first log s. (log' : Log) (new : Memory) → CallsToEnd log log' s.memory new
    → TouchesToEnd log log' s.memory new ⊎ (EndsOn log log' s.memory new ⊎ FailsToEnd log log' s.memory new)
    → GoesWith first log' s (with_memory s new))

-- With the fence behind all logged lines the region becomes closing.
abbrev pub FencesAreClosings : Type 0
FencesAreClosings = OfLogs (λ first log s. (log' : Log) (new : Memory) → CallsToEnd log log' s.memory new
    → FencesRegion log log' s.memory new
    → GoesWith first log' s (with_act (with_memory s new) log.thread op.Closing []))

-- The last call ends the region.
abbrev pub LastCallsAreEnds : Type 0
LastCallsAreEnds = OfLogs (λ first log s. (log' : Log) (new : Memory) → CallsToEnd log log' s.memory new
    → EndsLog log log' s.memory new
    → GoesWith first log' s (with_act (with_memory s new) log.thread op.End []))

-- A region within another, and one that logged nothing, ends at once.
abbrev pub EndsAtOnceAreEvents : Type 0
EndsAtOnceAreEvents = OfLogs (λ first log s. log.underway ≡ Nothing → 0 < log.depth → EndsAtOnce log
    → GoesWith first (record log { depth = log.depth - 1 }) s (with_act s log.thread op.End []))

-- ---- what leaves a log's region alone

-- A call of the image that isn't the log's: a touch, a write-back or a fence, made or failed.
abbrev pub CallsLeaveLogs : Type 0
CallsLeaveLogs = OfLogs (λ first log s. (new : Memory) → KeepsShown s.memory new
    → SameImage s.memory new ⊎ OneCall s.memory new → s.memory.calls ≤ new.calls
    → GoesWith first log s (with_memory s new))
