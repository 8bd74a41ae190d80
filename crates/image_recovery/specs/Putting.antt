-- Logs that are put back into an image, and emptied. These are the undo logs of failure-atomic regions (Shull, Huang and Torrellas,
-- "AutoPersist", PLDI 2019), of this project's own format.
use Rattle.std.specs.Prelude.{◌≡◌, ◌⊎◌, ◌<◌, ℕ, List, false, true, nat_lt, if◌then◌else◌, Some}
use Rattle.line_image.specs.Trace.{Outcome}
use Rattle.line_memory.specs.Memory.{Memory, shown, IsWritten, IsDurable}
use Rattle.image_layout.specs.Places.{logs, log_head_line}
use Rattle.image_meaning.specs.Checks.{Words}
use Rattle.image_meaning.specs.Logs.{Logged, is_log_line, logs_below, old_word, put_back, put_each}
use Rattle.image_meaning.specs.Recovering.{IsRecovering}
use Rattle.word_changes.specs.Changes.{Tells, AllKnown, ChangesTo}

-- the logs name this word, and say that it had this value
abbrev pub LogsSay : Words → ℕ → ℕ → ℕ → Type 0
LogsSay c l w v = old_word (logs_below c logs) l w ≡ Some v

-- a word outside the logs that they name is given the value that they say
abbrev pub IsPutBack : Words → ℕ → ℕ → ℕ → Type 0
IsPutBack c l w v = (is_log_line l ≡ false) × LogsSay c l w v

-- All words outside the logs show what they have once the logs are put back; the logs' own lines show what they did.
pub record PutsBack (old new : Memory) : Type 0 where
  pub size : new.size ≡ old.size
  pub words : (l w : ℕ) → l < old.size → is_log_line l ≡ false → shown new l w ≡ put_back (shown old) l w
  pub logs : (l w : ℕ) → l < old.size → is_log_line l ≡ true → shown new l w ≡ shown old l w

-- All words outside the logs show what they have once the logs are put back, and no log counts an entry.
pub record IsRecovered (old new : Memory) : Type 0 where
  pub words : (l w : ℕ) → l < old.size → is_log_line l ≡ false → shown new l w ≡ put_back (shown old) l w
  pub empty : (t : ℕ) → t < logs → shown new (log_head_line t) 0 ≡ 0

-- the count of this log is given 0
abbrev pub IsClearedAt : ℕ → ℕ → ℕ → ℕ → Type 0
IsClearedAt t l w v = (l ≡ log_head_line t) × (w ≡ 0) × (v ≡ 0)

-- the count of a log is given 0
abbrev pub IsCleared : ℕ → ℕ → ℕ → Type 0
IsCleared l w v = (t : ℕ) × (t < logs) × IsClearedAt t l w v

-- a word outside the logs is put back, or the count of a log is given 0
abbrev pub IsRestored : Words → ℕ → ℕ → ℕ → Type 0
IsRestored c l w v = IsPutBack c l w v ⊎ IsCleared l w v

-- each line is written back as it is shown
abbrev pub AllWritten : Memory → Type 0
AllWritten m = (l w : ℕ) → l < m.size → IsWritten m l w

-- Each word has one value that a stop leaves, which it shows.
abbrev pub AllDurable : Memory → Type 0
AllDurable m = (l w : ℕ) → l < m.size → IsDurable m l w

-- Of the words c that an image has, whose logs pass, these entries were put back so far.
pub record IsPutting (c : Words) (done : List Logged) (first m : Memory) : Type 0 where
  pub known : AllKnown m
  pub shows : (l w : ℕ) → l < m.size → shown m l w ≡ put_each done c l w
  pub logs : (l w : ℕ) → l < m.size → is_log_line l ≡ true → shown m l w ≡ c l w
  pub written : Tells first → AllWritten first → AllWritten m
  pub changes : ChangesTo (IsPutBack c) first m

-- the words of the image's lines, and others behind them
abbrev pub within : ℕ → Words → Words → Words
within size d e l w = if nat_lt l size then d l w else e l w

-- what a stop within a recovery leaves in the lines of an image of so many lines
abbrev pub IsRecoveringIn : ℕ → Words → Outcome → Type 0
IsRecoveringIn size c d = IsRecovering c (within size d (put_back c))
