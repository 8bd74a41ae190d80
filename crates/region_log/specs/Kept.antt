-- How a line memory keeps a log: what holds of its words between two calls, whatever other threads do that
-- store to no line of the log.
use Rattle.std.specs.Prelude.{◌≡◌, ◌≢◌, ◌⊎◌, ◌<◌, ◌≤◌, ◌+◌, ℕ, true, List, [], ◌∷◌, length, All, AllPairs}
use Rattle.std.specs.List.{AllWithin}
use Rattle.image_layout.specs.Places.{logs, min_lines, log_head_line, log_entry_line, log_entry_word}
use Rattle.image_meaning.specs.Logs.{Logged, may_be_logged}
use Rattle.line_memory.specs.Memory.{Memory, shown, IsTelling, CanLeave, IsWritten, IsDurable}
use Rattle.region_log.specs.declared.entry.Entry.{Entry}
use Rattle.region_log.specs.declared.entry.EntryStage.{EntryStage}
use Rattle.region_log.specs.declared.entry.EntryStage.TheVariants.{Begun, Written, Fenced, Counting, Counted}
use Rattle.region_log.specs.declared.entry.EndStage.{EndStage}
use Rattle.region_log.specs.declared.entry.EndStage.TheVariants.{Writing, AllFenced, Clearing, Cleared}
use Rattle.region_log.specs.declared.entry.Underway.{Underway}
use Rattle.region_log.specs.declared.entry.Underway.TheVariants.{Nothing, Adding, Ending}
use Rattle.region_log.specs.Log.{Log, SameWord, IsLogged, logged_of, most_entries}

-- a stop from now on leaves this value alone in the word, if nothing is stored to it
abbrev pub LeavesOnly : Memory → ℕ → ℕ → ℕ → Type 0
LeavesOnly m l w x = (v : ℕ) → CanLeave m l w v → v ≡ x

-- the count of log t is durable, and is n
abbrev pub Counts : Memory → ℕ → ℕ → Type 0
Counts m t n = LeavesOnly m (log_head_line t) 0 n

-- both words of entry n are durable
pub record HasEntry (m : Memory) (t n : ℕ) (e : Logged) : Type 0 where
  pub place : LeavesOnly m (log_entry_line t n) (log_entry_word n) e.place
  pub old : LeavesOnly m (log_entry_line t n) (log_entry_word n + 1) e.old

-- so are these entries, the first of them number n
abbrev pub HasEntries : Memory → ℕ → ℕ → List Entry → Type 0
HasEntries m t n [] = Unit {0}
HasEntries m t n (e ∷ entries) = HasEntry m t n (logged_of e) × HasEntries m t (n + 1) entries

-- exactly these entries count
pub record IsWhole (m : Memory) (t : ℕ) (entries : List Entry) : Type 0 where
  pub count : Counts m t (length entries)
  pub each : HasEntries m t 0 entries

-- ---- an entry is added

-- its words stand behind those that count, written back
pub record IsEntryWritten (m : Memory) (t n : ℕ) (e : Logged) : Type 0 where
  pub place : shown m (log_entry_line t n) (log_entry_word n) ≡ e.place
  pub old : shown m (log_entry_line t n) (log_entry_word n + 1) ≡ e.old
  pub place_written : IsWritten m (log_entry_line t n) (log_entry_word n)
  pub old_written : IsWritten m (log_entry_line t n) (log_entry_word n + 1)

-- its words are durable, and the count may be raised over it: it is shown so, or wasn't yet
pub record IsCounting (m : Memory) (t : ℕ) (entries : List Entry) (e : Entry) : Type 0 where
  pub count : (v : ℕ) → CanLeave m (log_head_line t) 0 v → (v ≡ length entries) ⊎ (v ≡ length entries + 1)
  pub raised : (shown m (log_head_line t) 0 ≡ length entries + 1) ⊎ Counts m t (length entries)
  pub each : HasEntries m t 0 entries
  pub entry : HasEntry m t (length entries) (logged_of e)

-- the count shows this, written back
pub record IsCountWritten (m : Memory) (t n : ℕ) : Type 0 where
  pub shows : shown m (log_head_line t) 0 ≡ n
  pub written : IsWritten m (log_head_line t) 0

abbrev pub HoldsAdding : Memory → ℕ → List Entry → Entry → EntryStage → Type 0
HoldsAdding m t entries e Begun = IsWhole m t entries
HoldsAdding m t entries e Written = IsWhole m t entries × IsEntryWritten m t (length entries) (logged_of e)
HoldsAdding m t entries e Fenced = IsWhole m t entries × HasEntry m t (length entries) (logged_of e)
HoldsAdding m t entries e Counting = IsCounting m t entries e
HoldsAdding m t entries e Counted = IsCounting m t entries e × IsCountWritten m t (length entries + 1)

-- ---- a region is ended

-- the count may be lowered to nothing: it is shown so, or wasn't yet
pub record IsClearing (m : Memory) (t : ℕ) (entries : List Entry) : Type 0 where
  pub count : (v : ℕ) → CanLeave m (log_head_line t) 0 v → (v ≡ length entries) ⊎ (v ≡ 0)
  pub lowered : (shown m (log_head_line t) 0 ≡ 0) ⊎ Counts m t (length entries)
  pub each : HasEntries m t 0 entries

abbrev pub HoldsEnding : Memory → ℕ → List Entry → EndStage → Type 0
HoldsEnding m t entries (Writing lines) = IsWhole m t entries
HoldsEnding m t entries AllFenced = IsWhole m t entries
HoldsEnding m t entries Clearing = IsClearing m t entries
HoldsEnding m t entries Cleared = IsClearing m t entries × IsCountWritten m t 0

-- ---- a log

abbrev pub HoldsUnderway : Memory → ℕ → List Entry → Underway → Type 0
HoldsUnderway m t entries Nothing = IsWhole m t entries
HoldsUnderway m t entries (Adding e stage) = HoldsAdding m t entries e stage
HoldsUnderway m t entries (Ending stage) = HoldsEnding m t entries stage

-- the word is a root slot's or an object's, and isn't logged yet
pub record MayBeAdded (size : ℕ) (entries : List Entry) (e : Entry) : Type 0 where
  pub place : may_be_logged size e.spot.line ≡ true
  pub unlogged : ¬ IsLogged entries e.spot

-- There is room for the entry that is added. A region is ended once it is the only one that is open and has
-- logged something.
abbrev pub FitsUnderway : ℕ → ℕ → List Entry → Underway → Type 0
FitsUnderway size depth entries Nothing = Unit {0}
FitsUnderway size depth entries (Adding e stage) = MayBeAdded size entries e × (length entries < most_entries)
FitsUnderway size depth entries (Ending (Writing lines)) = (depth ≡ 1) × (entries ≢ []) ×
    (lines ≤ length entries)
FitsUnderway size depth entries (Ending stage) = (depth ≡ 1) × (entries ≢ [])

-- The memory keeps the log: each logged word is a root slot's or an object's and is logged once, and where
-- the image tells what was done to it, the log's words are durable as far as the log has come.
pub record KeepsLog (log : Log) (m : Memory) : Type 0 where
  pub thread : log.thread < logs
  pub size : min_lines ≤ m.size
  pub room : length log.entries ≤ most_entries
  pub places : All (λ (e : Entry). may_be_logged m.size e.spot.line ≡ true) log.entries
  pub once : AllPairs (λ (a b : Entry). ¬ SameWord a.spot b.spot) log.entries
  pub fits : FitsUnderway m.size log.depth log.entries log.underway
  pub words : IsTelling m.image.trace → HoldsUnderway m log.thread log.entries log.underway

-- ---- the words that a region logged

-- While the region is ended, the logged words whose lines were written back are so still, and all are durable
-- after the fence. No thread stores to a word that another's region has logged.
abbrev pub HoldsEnded : Memory → List Entry → EndStage → Type 0
HoldsEnded m entries (Writing lines) = AllWithin (λ (e : Entry). IsWritten m e.spot.line e.spot.word) entries
    0 lines
HoldsEnded m entries AllFenced = All (λ (e : Entry). IsDurable m e.spot.line e.spot.word) entries
HoldsEnded m entries Clearing = All (λ (e : Entry). IsDurable m e.spot.line e.spot.word) entries
HoldsEnded m entries Cleared = All (λ (e : Entry). IsDurable m e.spot.line e.spot.word) entries

abbrev pub HoldsRegion : Memory → List Entry → Underway → Type 0
HoldsRegion m entries Nothing = Unit {0}
HoldsRegion m entries (Adding e stage) = Unit {0}
HoldsRegion m entries (Ending stage) = HoldsEnded m entries stage

abbrev pub KeepsRegion : Log → Memory → Type 0
KeepsRegion log m = HoldsRegion m log.entries log.underway
