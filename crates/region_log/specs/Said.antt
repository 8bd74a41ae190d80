-- What the entries that a stop leaves of a log say of the image's words.
use Rattle.std.specs.Prelude.{◌≡◌, ◌≢◌, ◌<◌, ◌≤◌, ◌+◌, ℕ, List, length, Some, None, All, AllPairs}
use Rattle.ap_base.specs.declared.place.Spot.{Spot}
use Rattle.image_layout.specs.Places.{logs, log_entries, log_entry_line, log_entry_word}
use Rattle.image_meaning.specs.Logging.{IsNamed}
use Rattle.image_meaning.specs.Logs.{log_count, logged_at, log_of, old_word, SameLogs}
use Rattle.line_image.specs.Trace.{Outcome}
use Rattle.line_memory.specs.Memory.{Memory, IsTelling, CanLeaveAll}
use Rattle.region_log.specs.declared.entry.Entry.{Entry}
use Rattle.region_log.specs.declared.entry.EntryStage.TheVariants.{Fenced}
use Rattle.region_log.specs.declared.entry.Underway.TheVariants.{Adding}
use Rattle.region_log.specs.Kept.{KeepsLog}
use Rattle.region_log.specs.Log.{Log, SameWord, IsLogged, logged_of, LeftEntries}

-- As many count as were left, and a word is named by them exactly where it is logged: by the value that its
-- entry has, where no word is logged twice.
pub record LeftEntriesSay : Type 0 where
  pub count : (t : ℕ) (entries : List Entry) (c : Outcome) → LeftEntries t entries c
      → log_count c t ≡ length entries
  pub named : (t : ℕ) (entries : List Entry) (spot : Spot) (c : Outcome) → LeftEntries t entries c
      → IsLogged entries spot
      → IsNamed (old_word (log_of c t) spot.line spot.word)
  pub valued : (t : ℕ) (entries : List Entry) (c : Outcome) → LeftEntries t entries c
      → AllPairs (λ (a b : Entry). ¬ SameWord a.spot b.spot) entries
      → All (λ (e : Entry). old_word (log_of c t) e.spot.line e.spot.word ≡ Some e.old) entries
  pub unnamed : (t : ℕ) (entries : List Entry) (spot : Spot) (c : Outcome) → LeftEntries t entries c
      → ¬ IsLogged entries spot
      → old_word (log_of c t) spot.line spot.word ≡ None

-- A log that is kept never counts more entries than it has room for.
abbrev pub CountsFit : Type 0
CountsFit = (log : Log) (m : Memory) (c : Outcome) → KeepsLog log m → IsTelling m.image.trace
    → CanLeaveAll m c
    → log_count c log.thread ≤ log_entries

-- Before the count is raised over an entry, each stop leaves the entry whole behind those that count.
abbrev pub FencedEntriesAreThere : Type 0
FencedEntriesAreThere = (log : Log) (e : Entry) (m : Memory) (c : Outcome) → KeepsLog log m
    → log.underway ≡ Adding e Fenced
    → IsTelling m.image.trace → CanLeaveAll m c
    → (log_count c log.thread ≡ length log.entries) ×
    (logged_at c log.thread (length log.entries) ≡ logged_of e)

-- A word of an entry that doesn't count says nothing.
abbrev pub UncountedWordsSayNothing : Type 0
UncountedWordsSayNothing = (t n half : ℕ) (c d : Outcome) → n < log_entries → half < 2 → log_count c t ≤ n
    → ((s : ℕ) → s < logs → log_count c s ≤ log_entries)
    → ((l w : ℕ) → (l ≡ log_entry_line t n → w ≢ log_entry_word n + half) → d l w ≡ c l w) → SameLogs c d
