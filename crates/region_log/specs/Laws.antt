-- The laws of a log: how it begins, what other threads' steps keep of it, and what a stop leaves.
use Rattle.std.specs.Prelude.{◌≡◌, ◌≢◌, ◌<◌, ◌≤◌, ℕ, List, [], All}
use Rattle.image_layout.specs.Places.{logs, log_entries, min_lines}
use Rattle.line_image.specs.Trace.{Outcome}
use Rattle.line_memory.specs.Memory.{Memory, IsTelling, CanLeaveAll}
use Rattle.line_memory.specs.Moments.{KeepsShown}
use Rattle.region_log.specs.declared.entry.Entry.{Entry}
use Rattle.region_log.specs.declared.entry.EntryStage.{EntryStage}
use Rattle.region_log.specs.declared.entry.EndStage.{EndStage}
use Rattle.region_log.specs.declared.entry.Underway.TheVariants.{Nothing}
use Rattle.region_log.specs.Kept.{Counts, KeepsLog, KeepsRegion}
use Rattle.region_log.specs.Log.{Log, LeftLog}
use Rattle.region_log.specs.Made.{Word, Puts, PutsThenCalls, IsOfLog, AreOfLog}
use Rattle.region_log.specs.Stages.{words_at, words_to_end}

-- A memory in which a log's count is durable and 0 keeps the empty log.
abbrev pub EmptyLogsAreKept : Type 0
EmptyLogsAreKept = (t depth : ℕ) (m : Memory) → t < logs → min_lines ≤ m.size → (IsTelling m.image.trace
    → Counts m t 0)
    → KeepsLog (record { thread = t; depth = depth; entries = []; underway = Nothing }) m

-- A call of the image, whoever makes it and whatever comes of it, keeps a log.
abbrev pub CallsKeepLogs : Type 0
CallsKeepLogs = (log : Log) (old new : Memory) → KeepsShown old new → KeepsLog log old → KeepsLog log new

-- So does a store to a line that isn't one of the log's: of an object, a root slot, another thread's log.
abbrev pub StoresKeepLogs : Type 0
StoresKeepLogs = (log : Log) (word : Word) (old new : Memory) → Puts word old new
    → ¬ IsOfLog log.thread word.line
    → KeepsLog log old → KeepsLog log new

-- So does each step of another thread's log, which stores to lines of that log alone.
pub record OthersStepsKeepLogs : Type 0 where
  pub own : (t n : ℕ) (e : Entry) (stage : EntryStage) → n < log_entries → AreOfLog t (words_at t n e stage)
  pub own_end : (t : ℕ) (stage : EndStage) → AreOfLog t (words_to_end t stage)
  pub keep : (log : Log) (t : ℕ) (words : List Word) (old new : Memory) → log.thread ≢ t → AreOfLog t words
      → PutsThenCalls words old new
      → KeepsLog log old → KeepsLog log new
  pub region : (log : Log) (t : ℕ) (words : List Word) (old new : Memory) → t < logs → AreOfLog t words
      → PutsThenCalls words old new
      → KeepsLog log old → KeepsRegion log old → KeepsRegion log new

-- Where a memory keeps a log, a stop leaves of it what it may.
abbrev pub KeptLogsAreLeft : Type 0
KeptLogsAreLeft = (log : Log) (m : Memory) (c : Outcome) → KeepsLog log m → IsTelling m.image.trace
    → CanLeaveAll m c → LeftLog log c

-- The words that a region logged stay written back, or durable, through calls of the image and through stores
-- to other words.
pub record RegionsStay : Type 0 where
  pub calls : (log : Log) (old new : Memory) → KeepsShown old new → KeepsRegion log old → KeepsRegion log new
  pub stores : (log : Log) (word : Word) (old new : Memory) → Puts word old new → KeepsLog log old
      → All (λ (e : Entry). e.spot.line ≡ word.line → e.spot.word ≢ word.word) log.entries
      → KeepsRegion log old → KeepsRegion log new
