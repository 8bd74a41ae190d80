-- What steps that store to none of a log's words keep of it.
use Rattle.std.proofs.Common.{◌≡◌, ◌≢◌, ◌⊎◌, inl, inr, ◌<◌, ◌≤◌, ◌+◌, ℕ, true, List, [], ◌∷◌, length, slice_index_or, sym, ◌∙◌}
use Rattle.std.proofs.Common.{subst, arith}
use Rattle.image_layout.specs.Places.{log_entries, log_head_line, log_entry_line, log_entry_word}
use Rattle.image_meaning.specs.Logs.{Logged, may_be_logged}
use Rattle.line_image.specs.Trace.{MayLeave}
use Rattle.line_image.specs.Told.{Told}
use Rattle.line_memory.specs.Memory.{Memory, shown, IsTelling, ReadsWord, CanLeave, IsWritten, IsDurable}
use Rattle.line_memory.specs.Moments.{KeepsShown}
use Rattle.region_log.specs.declared.entry.Entry.{Entry}
use Rattle.region_log.specs.declared.entry.EntryStage.{EntryStage}
use Rattle.region_log.specs.declared.entry.EntryStage.TheVariants.{Begun, Written, Fenced, Counting, Counted}
use Rattle.region_log.specs.declared.entry.EndStage.{EndStage}
use Rattle.region_log.specs.declared.entry.EndStage.TheVariants.{Writing, AllFenced, Clearing, Cleared}
use Rattle.region_log.specs.declared.entry.Underway.{Underway}
use Rattle.region_log.specs.declared.entry.Underway.TheVariants.{Nothing, Adding, Ending}
use Rattle.region_log.specs.Kept.{LeavesOnly, HasEntry, HasEntries, IsWhole, IsEntryWritten, IsCounting, Counts, IsCountWritten}
use Rattle.region_log.specs.Kept.{IsClearing, HoldsAdding, HoldsEnding, HoldsUnderway, FitsUnderway, KeepsLog}
use Rattle.region_log.specs.Log.{Log, logged_of}
use Rattle.region_log.specs.Made.{Word, Puts, IsOfLog}

-- nothing was stored to the lines of log t
pub record Undisturbed (t : ℕ) (old new : Memory) : Type 0 where
  pub size : new.size ≡ old.size
  pub silent : IsTelling new.image.trace → IsTelling old.image.trace
  pub shows : IsTelling new.image.trace → (l w : ℕ) → IsOfLog t l → shown new l w ≡ shown old l w
  pub leaves : (l w v : ℕ) → IsOfLog t l → CanLeave new l w v → CanLeave old l w v
  pub written : (l w : ℕ) → IsOfLog t l → IsWritten old l w → IsWritten new l w

pub undisturbed-call : (t : ℕ) (old new : Memory) → KeepsShown old new → Undisturbed t old new
undisturbed-call t old new keeps = record {
  size = keeps.size;
  silent = keeps.silent;
  shows = λ tells l w of_log. keeps.shows l w (inr (keeps.silent tells)) (inr tells);
  leaves = λ l w v of_log left. keeps.leaves l w v left;
  written = λ l w of_log is. keeps.written l w is;
}

-- ---- one store

module _ (word : Word) (old new : Memory) (put : Puts word old new) where
  pub put-tells : IsTelling new.image.trace → IsTelling old.image.trace
  put-tells tells = subst (λ (told : Told). IsTelling told.trace) put.same.image tells

  -- a stop leaves of another word what it left before
  pub put-leaves : (l w v : ℕ) → (l ≡ word.line → w ≢ word.word) → CanLeave new l w v → CanLeave old l w v
  put-leaves l w v apart (inl is) = inl (is ∙ put.others l w apart)
  put-leaves l w v apart (inr left) = inr (subst (λ (told : Told). MayLeave told.trace l w v) put.same.image
      left)

  -- and of the word itself the new value as well
  pub put-here : (v : ℕ) → CanLeave new word.line word.word v
      → CanLeave old word.line word.word v ⊎ (v ≡ word.value)
  put-here v (inl is) = inr (is ∙ put.here)
  put-here v (inr left) = inl (inr (subst (λ (told : Told). MayLeave told.trace word.line word.word v)
      put.same.image left))

  pub put-written : (l w : ℕ) → (l ≡ word.line → w ≢ word.word) → IsWritten old l w → IsWritten new l w
  put-written l w apart is = subst (λ (v : ℕ). ReadsWord new.image.trace l w v) (sym (put.others l w apart))
      (subst (λ (told : Told). ReadsWord told.trace l w (shown old l w)) (sym put.same.image) is)

  pub put-only : (l w x : ℕ) → (l ≡ word.line → w ≢ word.word) → LeavesOnly old l w x → LeavesOnly new l w x
  put-only l w x apart only v left = only v (put-leaves l w v apart left)

  pub put-durable : (l w : ℕ) → (l ≡ word.line → w ≢ word.word) → IsDurable old l w → IsDurable new l w
  put-durable l w apart durable v left = durable v (put-leaves l w v apart left) ∙ sym (put.others l w apart)

pub undisturbed-put : (t : ℕ) (word : Word) (old new : Memory) → Puts word old new → (IsOfLog t word.line
    → ⊥) → Undisturbed t old new
undisturbed-put t word old new put elsewhere = record {
  size = put.size;
  silent = put-tells word old new put;
  shows = λ tells l w of_log. put.others l w (apart l w of_log);
  leaves = λ l w v of_log left. put-leaves word old new put l w v (apart l w of_log) left;
  written = λ l w of_log is. put-written word old new put l w (apart l w of_log) is;
}
  where
    apart : (l w : ℕ) → IsOfLog t l → l ≡ word.line → w ≢ word.word
    apart l w of_log same = absurd (elsewhere (subst (IsOfLog t) same of_log))

-- ---- the lines of a log

pub head_of_log : (t : ℕ) → IsOfLog t (log_head_line t)
head_of_log t = record { from = omega arith; below = omega arith }

pub entry_of_log : (t n : ℕ) → n < log_entries → IsOfLog t (log_entry_line t n)
entry_of_log t n room = record { from = omega arith; below = omega (arith, room) }

-- ---- what stays

module _ (t : ℕ) (old new : Memory) (on : Undisturbed t old new) where
  only-on : (l w x : ℕ) → IsOfLog t l → LeavesOnly old l w x → LeavesOnly new l w x
  only-on l w x of_log only v left = only v (on.leaves l w v of_log left)

  entry-on : (n : ℕ) (e : Logged) → n < log_entries → HasEntry old t n e → HasEntry new t n e
  entry-on n e room has =
      let of_log = entry_of_log t n room in
      record {
        place = only-on (log_entry_line t n) (log_entry_word n) e.place of_log has.place;
        old = only-on (log_entry_line t n) (log_entry_word n + 1) e.old of_log has.old;
      }

  entries-on : (n : ℕ) (entries : List Entry) → n + length entries ≤ log_entries
      → HasEntries old t n entries → HasEntries new t n entries
  entries-on n [] room has = tt
  entries-on n (e ∷ entries) room has = (
    entry-on n (logged_of e) (omega (arith, room)) has.0,
    entries-on (n + 1) entries (omega (arith, room)) has.1,
  )

  whole-on : (entries : List Entry) → length entries ≤ log_entries → IsWhole old t entries
      → IsWhole new t entries
  whole-on entries room whole = record {
    count = only-on (log_head_line t) 0 (length entries) (head_of_log t) whole.count;
    each = entries-on 0 entries (omega (arith, room)) whole.each;
  }

  written-on : IsTelling new.image.trace → (n : ℕ) (e : Logged) → n < log_entries
      → IsEntryWritten old t n e → IsEntryWritten new t n e
  written-on tells n e room is =
      let of_log = entry_of_log t n room in
      record {
        place = on.shows tells (log_entry_line t n) (log_entry_word n) of_log ∙ is.place;
        old = on.shows tells (log_entry_line t n) (log_entry_word n + 1) of_log ∙ is.old;
        place_written = on.written (log_entry_line t n) (log_entry_word n) of_log is.place_written;
        old_written = on.written (log_entry_line t n) (log_entry_word n + 1) of_log is.old_written;
      }

  -- the count shows a value, or only the old one is left
  raised-on : IsTelling new.image.trace → (n v : ℕ) → (shown old (log_head_line t) 0 ≡ v) ⊎ Counts old t n
      → (shown new (log_head_line t) 0 ≡ v) ⊎ Counts new t n
  raised-on tells n v (inl shows) = inl (on.shows tells (log_head_line t) 0 (head_of_log t) ∙ shows)
  raised-on tells n v (inr only) = inr (only-on (log_head_line t) 0 n (head_of_log t) only)

  counting-on : IsTelling new.image.trace → (entries : List Entry) (e : Entry) → length entries < log_entries
      → IsCounting old t entries e → IsCounting new t entries e
  counting-on tells entries e room is = record {
    count = λ v left. is.count v (on.leaves (log_head_line t) 0 v (head_of_log t) left);
    raised = raised-on tells (length entries) (length entries + 1) is.raised;
    each = entries-on 0 entries (omega (arith, room)) is.each;
    entry = entry-on (length entries) (logged_of e) room is.entry;
  }

  count_written-on : IsTelling new.image.trace → (n : ℕ) → IsCountWritten old t n → IsCountWritten new t n
  count_written-on tells n is = record {
    shows = on.shows tells (log_head_line t) 0 (head_of_log t) ∙ is.shows;
    written = on.written (log_head_line t) 0 (head_of_log t) is.written;
  }

  clearing-on : IsTelling new.image.trace → (entries : List Entry) → length entries ≤ log_entries
      → IsClearing old t entries → IsClearing new t entries
  clearing-on tells entries room is = record {
    count = λ v left. is.count v (on.leaves (log_head_line t) 0 v (head_of_log t) left);
    lowered = raised-on tells (length entries) 0 is.lowered;
    each = entries-on 0 entries (omega (arith, room)) is.each;
  }

  module _ (tells : IsTelling new.image.trace) (entries : List Entry) where
    pub adding-on : (e : Entry) (stage : EntryStage) → length entries < log_entries
        → HoldsAdding old t entries e stage → HoldsAdding new t entries e stage
    adding-on e Begun room is = whole-on entries (omega (arith, room)) is
    adding-on e Written room is = (
      whole-on entries (omega (arith, room)) is.0,
      written-on tells
          (length entries) (logged_of e) room is.1,
    )
    adding-on e Fenced room is = (
      whole-on entries (omega (arith, room)) is.0,
      entry-on (length entries)
          (logged_of e) room is.1,
    )
    adding-on e Counting room is = counting-on tells entries e room is
    adding-on e Counted room is = (
      counting-on tells entries e room is.0,
      count_written-on tells
          (length entries + 1) is.1,
    )

    pub ending-on : (stage : EndStage) → length entries ≤ log_entries → HoldsEnding old t entries stage
        → HoldsEnding new t entries stage
    ending-on (Writing lines) room is = whole-on entries room is
    ending-on AllFenced room is = whole-on entries room is
    ending-on Clearing room is = clearing-on tells entries room is
    ending-on Cleared room is = (clearing-on tells entries room is.0, count_written-on tells 0 is.1)

    underway-on : (size depth : ℕ) (underway : Underway) → length entries ≤ log_entries
        → FitsUnderway size depth entries underway
        → HoldsUnderway old t entries underway → HoldsUnderway new t entries underway
    underway-on size depth Nothing room fits is = whole-on entries room is
    underway-on size depth (Adding e stage) room fits is = adding-on e stage fits.1 is
    underway-on size depth (Ending stage) room fits is = ending-on stage room is

-- the memory keeps the log
pub keeps-on : (log : Log) (old new : Memory) → Undisturbed log.thread old new → KeepsLog log old
    → KeepsLog log new
keeps-on log old new on keeps = record {
  thread = keeps.thread;
  size = omega (arith, keeps.size, on.size);
  room = keeps.room;
  places = λ k d below. subst (λ (size : ℕ). may_be_logged size (slice_index_or log.entries k d).spot.line ≡
      true) (sym on.size) (keeps.places k d below);
  once = keeps.once;
  fits = subst (λ (size : ℕ). FitsUnderway size log.depth log.entries log.underway) (sym on.size) keeps.fits;
  words = λ tells. underway-on log.thread old new on tells log.entries old.size log.depth log.underway
      keeps.room keeps.fits (keeps.words (on.silent tells));
}
