-- The logs of an image, and the words once their entries are put back. These are the undo logs of failure-atomic regions (Shull, Huang and
-- Torrellas, "AutoPersist", PLDI 2019), of this project's own format.
use Rattle.std.specs.Prelude.{◌≡◌, ◌<◌, ℕ, zero, suc, ◌+◌, ◌/◌, ◌%◌, ◌==◌, ◌&&◌, ◌||◌, not, nat_le, nat_lt, Bool, List, [], ◌∷◌}
use Rattle.std.specs.Prelude.{◌++◌, map, if◌then◌else◌, Option, Some, None}
use Rattle.std.specs.List.{list_any, range_with_len}
use Rattle.image_layout.specs.declared.superblock.BadReason.TheVariants as bad
use Rattle.image_layout.specs.Places.{logs, log_entries, root_slots, slot_line, first_object_line, log_head_line}
use Rattle.image_layout.specs.Places.{log_entry_line, log_entry_word}
use Rattle.image_meaning.specs.Checks.{Words, Bad, fails_unless, then_check, first_fault}

-- a place, which is 8 × line + word, and the word that it had
pub record Logged : Type 0 where
  pub place : ℕ
  pub old : ℕ

-- how many entries of log t count
abbrev pub log_count : Words → ℕ → ℕ
log_count words t = words (log_head_line t) 0

abbrev pub logged_at : Words → ℕ → ℕ → Logged
logged_at words t n = record {
  place = words (log_entry_line t n) (log_entry_word n);
  old = words (log_entry_line t n) (log_entry_word n + 1);
}

-- the first n entries of log t
abbrev pub first_logged : Words → ℕ → ℕ → List Logged
first_logged words t n = map (logged_at words t) (range_with_len 0 n)

-- the counted entries of log t
abbrev pub log_of : Words → ℕ → List Logged
log_of words t = first_logged words t (log_count words t)

-- The counted entries of the logs below t. They are put back from the last of this list to its first: log by log, and in each log the last
-- entry first.
unfoldable pub logs_below : Words → ℕ → List Logged
logs_below words zero = []
logs_below words (suc t) = log_of words t ++ logs_below words t

-- ---- checks

-- a root slot's line, or an object's in an image of so many lines
abbrev pub may_be_logged : ℕ → ℕ → Bool
may_be_logged size line =
    (nat_le (slot_line 0) line && nat_lt line (slot_line root_slots)) || (nat_le first_object_line line && nat_lt line size)

abbrev pub has_place : List Logged → ℕ → Bool
has_place entries place = list_any (λ (e : Logged). e.place == place) entries

-- entry n of log t: its place may be logged, and no entry before it has that place
abbrev pub entry_fault : ℕ → Words → ℕ → ℕ → Option Bad
entry_fault size words t n =
    let place = (logged_at words t n).place in
    fails_unless (may_be_logged size (place / 8) && not (has_place (first_logged words t n ++ logs_below words t) place))
    (log_entry_line t n, bad.LogPlace)

abbrev pub log_fault : ℕ → Words → ℕ → Option Bad
log_fault size words t =
    then_check (fails_unless (nat_le (log_count words t) log_entries) (log_head_line t, bad.LogCount))
    (first_fault (entry_fault size words t) (log_count words t))

-- log by log
unfoldable pub logs_fault : ℕ → Words → Option Bad
logs_fault size words = first_fault (log_fault size words) logs

-- ---- putting back

abbrev pub is_place : ℕ → ℕ → ℕ → Bool
is_place place line word = place / 8 == line && place % 8 == word

-- the word that the first entry of a place says
abbrev pub old_word : List Logged → ℕ → ℕ → Option ℕ
old_word [] line word = None
old_word (e ∷ entries) line word = if is_place e.place line word then Some e.old else old_word entries line word

abbrev pub or_else : Option ℕ → ℕ → ℕ
or_else (Some old) now = old
or_else None now = now

-- a line of the logs
abbrev pub is_log_line : ℕ → Bool
is_log_line line = nat_le (log_head_line 0) line && nat_lt line first_object_line

-- The words once all counted entries are put back. The logs' own lines say nothing any more, and show as zeros.
unfoldable pub put_back : Words → Words
put_back words line word =
    if is_log_line line then 0 else or_else (old_word (logs_below words logs) line word) (words line word)

-- ---- putting back one by one

-- the words with one entry put back
abbrev pub put_one : Logged → Words → Words
put_one e words line word = if is_place e.place line word then e.old else words line word

-- the words with these entries put back, from the last of the list to its first
abbrev pub put_each : List Logged → Words → Words
put_each [] words = words
put_each (e ∷ entries) words = put_one e (put_each entries words)

-- ---- logs that say the same

-- d has the counts of c in all logs, and the counted entries
pub record SameLogs (c d : Words) : Type 0 where
  pub counts : (t : ℕ) → t < logs → log_count d t ≡ log_count c t
  pub entries : (t n : ℕ) → t < logs → n < log_count c t → logged_at d t n ≡ logged_at c t n

-- no entry of a log counts
abbrev pub NoneLogged : Words → Type 0
NoneLogged words = (t : ℕ) → t < logs → log_count words t ≡ 0
