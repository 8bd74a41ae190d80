-- The words of one entry that come into an image's directory: written back line by line (CLWB), fenced (SFENCE), and only then counted in the
-- number of words in use. Of this project's own format.
use Rattle.std.specs.Prelude.{◌≡◌, ◌⊎◌, ◌<◌, ◌≤◌, ℕ, ◌+◌, ◌-◌, ◌/◌, List, length, slice_index_or, nat_lt, if◌then◌else◌}
use Rattle.line_image.specs.Trace.{Outcome}
use Rattle.line_memory.specs.Memory.{Memory, IsResident, IsAwaited, CanLeave, OneCall}
use Rattle.image_layout.specs.Places.{directory_line, directory_word}
use Rattle.word_changes.specs.Changes.{IsFixed, IsWrittenAs, IsGiven}
use Rattle.directories.specs.declared.stepping.Progress.{Progress}
use Rattle.directories.specs.declared.stepping.Progress.TheVariants.{Words, Fenced, Raised}
use Rattle.directories.specs.declared.stepping.Step.{Step}
use Rattle.directories.specs.declared.stepping.Step.TheVariants.{Touched, Comes, Finished}

-- the words of an entry from one to before another are given their values, behind so many words in use
abbrev pub OfWords : ℕ → List ℕ → ℕ → ℕ → ℕ → ℕ → ℕ → Type 0
OfWords used words from to l w v = (i : ℕ) × (from ≤ i) × (i < to) × (l ≡ directory_line (used + i)) × (w ≡ directory_word (used + i))
    × (v ≡ slice_index_or words i 0)

-- that is so of an entry's words, or the number of words in use is given the value that counts them too
abbrev pub OfEntry : ℕ → List ℕ → ℕ → ℕ → ℕ → Type 0
OfEntry used words l w v = OfWords used words 0 (length words) l w v ⊎ IsGiven 0 3 (used + length words) l w v

-- the first n of the words stand behind the words in use, and are written back
abbrev pub AreWritten : ℕ → List ℕ → ℕ → Memory → Type 0
AreWritten used words n m = (i : ℕ) → i < n
    → IsWrittenAs m (directory_line (used + i)) (directory_word (used + i)) (slice_index_or words i 0)

-- all of them stand there, and a stop leaves nothing else
abbrev pub AreFixed : ℕ → List ℕ → Memory → Type 0
AreFixed used words m = (i : ℕ) → i < length words
    → IsFixed m (directory_line (used + i)) (directory_word (used + i)) (slice_index_or words i 0)

-- the number of words in use is left as it was, or so that it counts the entry
abbrev pub IsRaising : ℕ → List ℕ → Memory → Type 0
IsRaising used words m = (x : ℕ) → CanLeave m 0 3 x → (x ≡ used) ⊎ (x ≡ used + length words)

-- How far the entry has come, behind so many words in use.
abbrev pub HasCome : Progress → ℕ → List ℕ → Memory → Type 0
HasCome (Words n) used words m = (n ≤ length words) × IsFixed m 0 3 used × AreWritten used words n m
HasCome Fenced used words m = IsRaising used words m × AreFixed used words m
HasCome Raised used words m = IsRaising used words m × AreFixed used words m × IsWrittenAs m 0 3 (used + length words)

-- the entry is in the directory for good
abbrev pub IsIn : ℕ → List ℕ → Memory → Type 0
IsIn used words m = IsFixed m 0 3 (used + length words) × AreFixed used words m

abbrev pub HasComeBy : Step → Progress → ℕ → List ℕ → Memory → Type 0
HasComeBy Touched progress used words m = HasCome progress used words m
HasComeBy (Comes next) progress used words m = HasCome next used words m
HasComeBy Finished progress used words m = IsIn used words m

-- a stop leaves the number of words in use as it was; or it counts the entry, and all the entry's words are there
abbrev pub OldOrWhole : ℕ → List ℕ → Outcome → Type 0
OldOrWhole used words c = (c 0 3 ≡ used)
    ⊎ ((c 0 3 ≡ used + length words)
    × ((i : ℕ) → i < length words → c (directory_line (used + i)) (directory_word (used + i)) ≡ slice_index_or words i 0))

-- ---- how many image calls are left

-- the lines of the words from one of the directory to before another
abbrev pub lines_between : ℕ → ℕ → ℕ
lines_between from to = if nat_lt from to then (to + 7) / 8 - from / 8 else 0

-- one for each line that isn't written, and then a fence, the line of the number of words in use, and a fence
abbrev pub calls_left : Progress → ℕ → List ℕ → ℕ
calls_left (Words n) used words = lines_between (used + n) (used + length words) + 3
calls_left Fenced used words = 2
calls_left Raised used words = 1

-- the line that the next call needs, if there is one
abbrev pub IsNeeded : Progress → ℕ → List ℕ → ℕ → Type 0
IsNeeded (Words n) used words l = (n < length words) × (l ≡ directory_line (used + n))
IsNeeded Fenced used words l = l ≡ 0
IsNeeded Raised used words l = ⊥

-- one image call was made of those that are left, unless the step only touched
abbrev pub IsCalled : Step → Progress → ℕ → List ℕ → Memory → Memory → Type 0
IsCalled Touched progress used words old new = Unit {0}
IsCalled (Comes next) progress used words old new =
    (calls_left next used words + 1 ≡ calls_left progress used words) × OneCall old new
IsCalled Finished progress used words old new = (calls_left progress used words ≡ 1) × OneCall old new

-- a line that the next call needs wasn't resident, and is touched: after one more touch, at the most, it is
abbrev pub IsFetched : Progress → ℕ → List ℕ → Memory → Memory → Type 0
IsFetched progress used words old new = (l : ℕ) × IsNeeded progress used words l × (¬ IsResident old l)
    × (IsResident new l ⊎ IsAwaited new l)
