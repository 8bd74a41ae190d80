-- What entries of logs do to the words that are put back: an entry is added, a logged word is stored to, and a log is emptied. These are the undo
-- logs of failure-atomic regions (Shull, Huang and Torrellas, "AutoPersist", PLDI 2019), of this project's own format.
use Rattle.std.specs.Prelude.{◌≡◌, ◌≢◌, ◌↔◌, ℕ, suc, ◌/◌, ◌<◌, true, false, Option, None, Some}
use Rattle.image_layout.specs.Places.{logs, log_entries}
use Rattle.image_meaning.specs.Checks.{Words}
use Rattle.image_meaning.specs.Logs.{Logged, log_count, logged_at, log_of, logs_below, may_be_logged, has_place, logs_fault}
use Rattle.image_meaning.specs.Logs.{old_word, is_place, is_log_line, put_back, put_one, SameLogs}
use Rattle.image_meaning.specs.Recovering.{IsUnchanged}

-- d has the words of c outside the logs
abbrev pub SameOutside : Words → Words → Type 0
SameOutside c d = (line word : ℕ) → is_log_line line ≡ false → d line word ≡ c line word

-- d is c with this further entry in log t, whatever stands at its place
pub record AddsLogged (c d : Words) (t : ℕ) (entry : Logged) : Type 0 where
  pub others : (s : ℕ) → s < logs → s ≢ t → IsUnchanged c d s
  pub count : log_count d t ≡ suc (log_count c t)
  pub entries : (n : ℕ) → n < log_count c t → logged_at d t n ≡ logged_at c t n
  pub added : logged_at d t (log_count c t) ≡ entry
  pub words : (line word : ℕ) → is_log_line line ≡ false → is_place entry.place line word ≡ false → d line word ≡ c line word

-- the place may be logged, and no counted entry names it
pub record IsFree (size : ℕ) (words : Words) (place : ℕ) : Type 0 where
  pub may : may_be_logged size (place / 8) ≡ true
  pub unnamed : has_place (logs_below words logs) place ≡ false

-- What is put back after a free place was logged is what was put back before, with the entry's word at the place, and the
-- logs still pass. Where that word stands at the place, nothing changes.
pub record LoggingKeeps (size : ℕ) (c d : Words) (entry : Logged) : Type 0 where
  pub words : put_back d ≡ put_back (put_one entry c)
  pub logs : logs_fault size d ≡ None

abbrev pub FreePlacesAreLogged : Type 0
FreePlacesAreLogged = (size : ℕ) (c d : Words) (t : ℕ) (entry : Logged) → logs_fault size c ≡ None → t < logs
    → log_count c t < log_entries → IsFree size c entry.place → AddsLogged c d t entry → LoggingKeeps size c d entry

-- the word is one that an entry says
abbrev pub IsNamed : Option ℕ → Type 0
IsNamed said = (old : ℕ) × (said ≡ Some old)

-- A word is named by the logs exactly where it is named by one of them.
abbrev pub OneLogNames : Type 0
OneLogNames = (c : Words) (line word : ℕ) → IsNamed (old_word (logs_below c logs) line word)
    ↔ ((t : ℕ) × (t < logs) × IsNamed (old_word (log_of c t) line word))

-- Where no word of the logs' lines changes, the logs say what they said.
abbrev pub SameLinesSayTheSame : Type 0
SameLinesSayTheSame = (size : ℕ) (c d : Words) → logs_fault size c ≡ None
    → ((line word : ℕ) → is_log_line line ≡ true → d line word ≡ c line word) → SameLogs c d

-- d has the words of c outside the logs, but for places that a counted entry names
pub record SameButLogged (c d : Words) : Type 0 where
  pub said : SameLogs c d
  pub words : (line word : ℕ) → is_log_line line ≡ false → old_word (logs_below c logs) line word ≡ None → d line word ≡ c line word

-- Stores to logged words change nothing of what is put back.
abbrev pub LoggedStoresAreUndone : Type 0
LoggedStoresAreUndone = (c d : Words) → SameButLogged c d → put_back d ≡ put_back c

-- d is c with log t emptied
pub record Empties (c d : Words) (t : ℕ) : Type 0 where
  pub others : (s : ℕ) → s < logs → s ≢ t → IsUnchanged c d s
  pub empty : log_count d t ≡ 0
  pub words : SameOutside c d

-- The words that the log named show as they are then, and all others show as before.
pub record EmptyingCommits (size : ℕ) (c d : Words) (t : ℕ) : Type 0 where
  pub named : (line word old : ℕ) → old_word (log_of c t) line word ≡ Some old → put_back d line word ≡ d line word
  pub others : (line word : ℕ) → old_word (log_of c t) line word ≡ None → put_back d line word ≡ put_back c line word
  pub logs : logs_fault size d ≡ None

abbrev pub EmptiedLogsCommit : Type 0
EmptiedLogsCommit = (size : ℕ) (c d : Words) (t : ℕ) → logs_fault size c ≡ None → t < logs → Empties c d t
    → EmptyingCommits size c d t
