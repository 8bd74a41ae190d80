-- The stages of an entry that is added and of a region that is ended: each but the last leads to the next by
-- one call of the image.
use Rattle.std.specs.Prelude.{◌≡◌, ◌⊎◌, ◌<◌, ◌+◌, ℕ, List, [], slice_get, MatchOption, nat_lt, if◌then◌else◌}
use Rattle.image_layout.specs.Places.{log_head_line, log_entry_line}
use Rattle.line_memory.specs.Memory.{Memory, IsWritten}
use Rattle.region_log.specs.declared.entry.Entry.{Entry}
use Rattle.region_log.specs.declared.entry.EntryStage.{EntryStage}
use Rattle.region_log.specs.declared.entry.EntryStage.TheVariants.{Begun, Written, Fenced, Counting, Counted}
use Rattle.region_log.specs.declared.entry.EndStage.{EndStage}
use Rattle.region_log.specs.declared.entry.EndStage.TheVariants.{Writing, AllFenced, Clearing, Cleared}
use Rattle.region_log.specs.declared.entry.Underway.{Underway}
use Rattle.region_log.specs.declared.entry.Underway.TheVariants.{Nothing, Adding, Ending}
use Rattle.region_log.specs.Log.{Log, logged_of}
use Rattle.region_log.specs.Kept.{IsEntryWritten, IsCountWritten}
use Rattle.region_log.specs.Made.{Word, entry_words, count_word, Touches, Fences}

-- ---- an entry is added

-- no entry is under way, or this one
abbrev pub CanAdd : Underway → Entry → Type 0
CanAdd Nothing e = Unit {0}
CanAdd (Adding other stage) e = other ≡ e
CanAdd (Ending stage) e = ⊥

-- how far the entry is that is added next
abbrev pub entry_stage : Underway → EntryStage
entry_stage Nothing = Begun
entry_stage (Adding e stage) = stage
entry_stage (Ending stage) = Begun

-- its stage once the call of a stage was made, the last one aside
abbrev pub next_stage : EntryStage → EntryStage
next_stage Begun = Written
next_stage Written = Fenced
next_stage Fenced = Counted
next_stage Counting = Counted
next_stage Counted = Counted

-- its stage if the call failed: a write of the count that failed may count as made
abbrev pub failed_stage : EntryStage → EntryStage
failed_stage Begun = Begun
failed_stage Written = Written
failed_stage Fenced = Counting
failed_stage Counting = Counting
failed_stage Counted = Counted

-- what the call of a stage makes of the entry: its words are written back, its count is, or what was written
-- back is durable
abbrev pub HasMade : ℕ → ℕ → Entry → EntryStage → Memory → Memory → Type 0
HasMade t n e Begun old new = IsEntryWritten new t n (logged_of e)
HasMade t n e Written old new = Fences old new
HasMade t n e Fenced old new = IsCountWritten new t (n + 1)
HasMade t n e Counting old new = IsCountWritten new t (n + 1)
HasMade t n e Counted old new = Fences old new

-- the words that are stored at a stage, before the call: the entry, and the count over it
abbrev pub words_at : ℕ → ℕ → Entry → EntryStage → List Word
words_at t n e Begun = entry_words t n (logged_of e)
words_at t n e Written = []
words_at t n e Fenced = count_word t (n + 1)
words_at t n e Counting = count_word t (n + 1)
words_at t n e Counted = []

-- the line that has to be resident for it wasn't, and was touched; a fence needs none
abbrev pub TouchesLine : ℕ → ℕ → EntryStage → Memory → Memory → Type 0
TouchesLine t n Begun old new = Touches (log_entry_line t n) old new
TouchesLine t n Written old new = ⊥
TouchesLine t n Fenced old new = Touches (log_head_line t) old new
TouchesLine t n Counting old new = Touches (log_head_line t) old new
TouchesLine t n Counted old new = ⊥

-- ---- a region is ended

-- no entry is under way
abbrev pub CanEnd : Underway → Type 0
CanEnd Nothing = Unit {0}
CanEnd (Adding e stage) = ⊥
CanEnd (Ending stage) = Unit {0}

-- the region is one within another, or has logged nothing: it ends at once
abbrev pub EndsAtOnce : Log → Type 0
EndsAtOnce log = (1 < log.depth) ⊎ (log.entries ≡ [])

-- how far the end is
abbrev pub end_stage : Underway → EndStage
end_stage Nothing = Writing 0
end_stage (Adding e stage) = Writing 0
end_stage (Ending stage) = stage

abbrev pub failed_end : EndStage → EndStage
failed_end (Writing lines) = Writing lines
failed_end AllFenced = Clearing
failed_end Clearing = Clearing
failed_end Cleared = Cleared

-- its stage once the call of a stage was made, the last one aside: one more of n lines is written back, or
-- all are fenced, or the count is lowered
abbrev pub next_end : ℕ → EndStage → EndStage
next_end n (Writing lines) = if nat_lt lines n then Writing (lines + 1) else AllFenced
next_end n AllFenced = Cleared
next_end n Clearing = Cleared
next_end n Cleared = Cleared

-- the line that has to be resident wasn't, and was touched: that of the next logged word, or the log's head
-- line; a fence needs none
abbrev pub TouchesLineToEnd : ℕ → List Entry → EndStage → Memory → Memory → Type 0
TouchesLineToEnd t entries (Writing lines) old new =
    MatchOption (slice_get entries lines) ⊥ (λ e. Touches e.spot.line old new)
TouchesLineToEnd t entries AllFenced old new = Touches (log_head_line t) old new
TouchesLineToEnd t entries Clearing old new = Touches (log_head_line t) old new
TouchesLineToEnd t entries Cleared old new = ⊥

-- the words that are stored at a stage: the count is lowered to nothing
abbrev pub words_to_end : ℕ → EndStage → List Word
words_to_end t (Writing lines) = []
words_to_end t AllFenced = count_word t 0
words_to_end t Clearing = count_word t 0
words_to_end t Cleared = []

-- what the call of a stage makes of the region: a logged word's line is written back, or what was written
-- back is durable, or the count is written back
abbrev pub HasEnded : ℕ → List Entry → EndStage → Memory → Memory → Type 0
HasEnded t entries (Writing lines) old new =
    MatchOption (slice_get entries lines) (Fences old new) (λ e. (w : ℕ) → IsWritten new e.spot.line w)
HasEnded t entries AllFenced old new = IsCountWritten new t 0
HasEnded t entries Clearing old new = IsCountWritten new t 0
HasEnded t entries Cleared old new = Fences old new
