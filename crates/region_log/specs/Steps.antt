-- What the calls of a log do, an outcome at a time: to the log, and to the memory.
use Rattle.std.specs.Prelude.{◌≡◌, ◌≢◌, ◌⊎◌, [], ◌∷◌, ◌++◌, length}
use Rattle.line_image.specs.Trace.{Outcome}
use Rattle.line_memory.specs.Memory.{Memory, IsTelling, KeepsTelling, CanLeaveAll}
use Rattle.line_memory.specs.Moments.{Goes}
use Rattle.region_log.specs.declared.entry.Entry.{Entry}
use Rattle.region_log.specs.declared.entry.EntryStage.TheVariants.{Counted}
use Rattle.region_log.specs.declared.entry.EndStage.TheVariants.{Writing, AllFenced, Cleared}
use Rattle.region_log.specs.declared.entry.Underway.TheVariants.{Nothing, Adding, Ending}
use Rattle.region_log.specs.Log.{Log, LeftLog}
use Rattle.region_log.specs.Kept.{KeepsLog}
use Rattle.region_log.specs.Made.{PutsThenCalls, Fences, LeavesElsewhere}
use Rattle.region_log.specs.Stages.{entry_stage, next_stage, failed_stage, words_at, TouchesLine, HasMade, end_stage, next_end}
use Rattle.region_log.specs.Stages.{failed_end, words_to_end, TouchesLineToEnd, HasEnded}

-- What holds of each step: the memory keeps the log as it is then, and at each moment within the step a stop
-- leaves of the log what it could leave before or after it, and elsewhere nothing new.
pub record StepsOn (before after : Log) (old new : Memory) : Type 0 where
  pub keeps : KeepsLog after new
  pub leaves : IsTelling new.image.trace → (c : Outcome) → CanLeaveAll new c → LeftLog after c
  pub any_moment : Goes old.image new.image
      (λ c. (LeftLog before c ⊎ LeftLog after c) × LeavesElsewhere before.thread old c)
  pub elsewhere : (c : Outcome) → CanLeaveAll new c → LeavesElsewhere before.thread old c
  pub size : new.size ≡ old.size
  pub telling : KeepsTelling old new
  pub silent : KeepsTelling new old

-- ---- an entry is added

-- A line that isn't resident was touched, and the entry is where it was.
pub record TouchesFor (e : Entry) (before after : Log) (old new : Memory) : Type 0 where
  pub log : after ≡ record before { underway = Adding e (entry_stage before.underway) }
  pub touches : TouchesLine before.thread (length before.entries) (entry_stage before.underway) old new
  pub memory : PutsThenCalls [] old new

-- The call of the entry's stage was made, and more are left.
pub record AddsOn (e : Entry) (before after : Log) (old new : Memory) : Type 0 where
  pub log : after ≡ record before { underway = Adding e (next_stage (entry_stage before.underway)) }
  pub not_last : entry_stage before.underway ≢ Counted
  pub memory : PutsThenCalls (words_at before.thread (length before.entries) e (entry_stage before.underway))
      old new
  pub made : HasMade before.thread (length before.entries) e (entry_stage before.underway) old new

-- The last of the four calls was made: the entry counts.
pub record AddsEntry (e : Entry) (before after : Log) (old new : Memory) : Type 0 where
  pub log : after ≡ record before { entries = before.entries ++ e ∷ []; underway = Nothing }
  pub last : entry_stage before.underway ≡ Counted
  pub memory : PutsThenCalls [] old new
  pub made : Fences old new

-- The call failed, or the touch before it: it is to be made again.
pub record FailsToAdd (e : Entry) (before after : Log) (old new : Memory) : Type 0 where
  pub log : after ≡ record before { underway = Adding e (failed_stage (entry_stage before.underway)) }
  pub memory : PutsThenCalls [] old new
      ⊎ PutsThenCalls (words_at before.thread (length before.entries) e (entry_stage before.underway)) old new

-- ---- a region is ended

-- A line that isn't resident was touched, and the end is where it was.
pub record TouchesToEnd (before after : Log) (old new : Memory) : Type 0 where
  pub log : after ≡ record before { underway = Ending (end_stage before.underway) }
  pub touches : TouchesLineToEnd before.thread before.entries (end_stage before.underway) old new
  pub memory : PutsThenCalls [] old new

-- The call of the end's stage was made, and more are left.
pub record EndsOn (before after : Log) (old new : Memory) : Type 0 where
  pub log : after ≡ record before {
    underway = Ending
        (next_end (length before.entries) (end_stage before.underway));
  }
  pub no_fence : end_stage before.underway ≢ Writing (length before.entries)
  pub not_last : before.underway ≢ Ending Cleared
  pub memory : PutsThenCalls (words_to_end before.thread (end_stage before.underway)) old new
  pub made : HasEnded before.thread before.entries (end_stage before.underway) old new

-- The fence behind all logged lines was made.
pub record FencesRegion (before after : Log) (old new : Memory) : Type 0 where
  pub log : after ≡ record before { underway = Ending AllFenced }
  pub next : end_stage before.underway ≡ Writing (length before.entries)
  pub memory : PutsThenCalls [] old new
  pub made : Fences old new

-- The last call was made: nothing is logged, and no region is open.
pub record EndsLog (before after : Log) (old new : Memory) : Type 0 where
  pub log : after ≡ record before { depth = 0; entries = []; underway = Nothing }
  pub last : before.underway ≡ Ending Cleared
  pub memory : PutsThenCalls [] old new
  pub made : Fences old new

-- The call failed, or the touch before it: it is to be made again.
pub record FailsToEnd (before after : Log) (old new : Memory) : Type 0 where
  pub log : after ≡ record before { underway = Ending (failed_end (end_stage before.underway)) }
  pub memory : PutsThenCalls [] old new
      ⊎ PutsThenCalls (words_to_end before.thread (end_stage before.underway)) old new
