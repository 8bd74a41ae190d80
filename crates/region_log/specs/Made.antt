-- What a step of a log does to the memory: some words of the log's own lines are stored, one after another
-- with no call of the image, and then at most one call is made, which changes no word that is shown.
use Rattle.std.specs.Prelude.{◌≡◌, ◌≢◌, ◌⊎◌, ◌<◌, ◌≤◌, ◌+◌, ℕ, suc, List, [], ◌∷◌}
use Rattle.image_layout.specs.Places.{log_head_line, log_entry_line, log_entry_word}
use Rattle.image_meaning.specs.Logs.{Logged}
use Rattle.line_image.specs.Trace.{Outcome}
use Rattle.line_memory.specs.Memory.{Memory, shown, CanLeave, IsResident, IsAwaited, IsWritten, IsDurable, SameImage, MadeFence}
use Rattle.line_memory.specs.Moments.{KeepsShown}

-- a word of a line, and what it is to show
pub record Word : Type 0 where
  pub line : ℕ
  pub word : ℕ
  pub value : ℕ

-- the two words of entry n of log t
abbrev pub entry_words : ℕ → ℕ → Logged → List Word
entry_words t n e =
    record { line = log_entry_line t n; word = log_entry_word n; value = e.place }
    ∷ record { line = log_entry_line t n; word = log_entry_word n + 1; value = e.old } ∷ []

-- its count
abbrev pub count_word : ℕ → ℕ → List Word
count_word t n = record { line = log_head_line t; word = 0; value = n } ∷ []

-- the word was stored, and no other
pub record Puts (word : Word) (old new : Memory) : Type 0 where
  pub size : new.size ≡ old.size
  pub same : SameImage old new
  pub here : shown new word.line word.word ≡ word.value
  pub others : (l w : ℕ) → (l ≡ word.line → w ≢ word.word) → shown new l w ≡ shown old l w

-- each of the words in turn
abbrev pub PutsAll : List Word → Memory → Memory → Type 0
PutsAll [] old new = new ≡ old
PutsAll (word ∷ words) old new = (between : Memory) × Puts word old between × PutsAll words between new

-- the words were stored, and then the image was called, or not
pub record PutsThenCalls (words : List Word) (old new : Memory) : Type 0 where
  pub placed : Memory
  pub puts : PutsAll words old placed
  pub calls : KeepsShown placed new

-- The line wasn't resident, and was touched: it is now, or room was made for it, and then the next touch brings
-- it.
pub record Touches (line : ℕ) (old new : Memory) : Type 0 where
  pub lacking : ¬ IsResident old line
  pub touched : IsResident new line ⊎ IsAwaited new line
  pub brought : IsAwaited old line → IsResident new line

-- a fence was made: what was written back is durable
pub record Fences (old new : Memory) : Type 0 where
  pub made : MadeFence old new
  pub durable : (l w : ℕ) → IsWritten old l w → IsDurable new l w

-- ---- what that comes to elsewhere

-- one of the lines of log t
pub record IsOfLog (t line : ℕ) : Type 0 where
  pub from : log_head_line t ≤ line
  pub below : line < log_head_line (suc t)

abbrev pub AreOfLog : ℕ → List Word → Type 0
AreOfLog t [] = Unit {0}
AreOfLog t (word ∷ words) = IsOfLog t word.line × AreOfLog t words

-- Outside log t a stop leaves nothing new.
abbrev pub LeavesElsewhere : ℕ → Memory → Outcome → Type 0
LeavesElsewhere t m c = (l w : ℕ) → ¬ IsOfLog t l → CanLeave m l w (c l w)
