-- The layout of an image with an empty directory, as it is written into a blank image: the root slots, the counts of the logs and the superblock,
-- of which the magic word comes last. Of this project's own format.
use Rattle.std.specs.Prelude.{◌≡◌, ◌⊎◌, ◌<◌, ◌≤◌, ◌+◌, ◌/◌, ℕ}
use Rattle.line_image.specs.Trace.{Outcome}
use Rattle.line_memory.specs.Memory.{Memory, CanLeave}
use Rattle.image_layout.specs.Places.{magic, version, root_slots, logs, slot_line, log_head_line}
use Rattle.image_meaning.specs.Checks.{Words}
use Rattle.image_meaning.specs.Logs.{NoneLogged}
use Rattle.image_meaning.specs.Meaning.{root_word}
use Rattle.word_changes.specs.Changes.{IsGiven}

-- The superblock is that of an image of so many lines whose directory is empty, all root slots are 0, and no entry of a log counts.
pub record IsFormatted (size : ℕ) (words : Words) : Type 0 where
  pub begins : words 0 0 ≡ magic
  pub layout : words 0 1 ≡ version
  pub lines : words 0 2 ≡ size
  pub used : words 0 3 ≡ 0
  pub slots : (r : ℕ) → r < root_slots → root_word words r ≡ 0
  pub logs : NoneLogged words

-- no layout is written yet, or the whole one is
abbrev pub IsBlankOrFormatted : ℕ → Words → Type 0
IsBlankOrFormatted size words = (words 0 0 ≡ 0) ⊎ IsFormatted size words

-- The most calls that the formatting makes: a write-back for each line of root slots, for each log's count and for the superblock
-- twice, the magic word last; and three fences.
abbrev pub most_formatting_calls : ℕ
most_formatting_calls = root_slots / 8 + logs + 2 + 3

-- ---- the words that are given values, in their order

-- the words of the lines from one to before another are given 0
abbrev pub OfLines : ℕ → ℕ → ℕ → ℕ → ℕ → Type 0
OfLines from to l w v = (from ≤ l) × (l < to) × (w < 8) × (v ≡ 0)

-- the root slots
abbrev pub OfSlots : ℕ → ℕ → ℕ → Type 0
OfSlots l w v = OfLines (slot_line 0) (slot_line root_slots) l w v

-- the counts of the first n logs
abbrev pub OfCounts : ℕ → ℕ → ℕ → ℕ → Type 0
OfCounts n l w v = (t : ℕ) × (t < n) × (l ≡ log_head_line t) × (w ≡ 0) × (v ≡ 0)

-- both
abbrev pub OfCleared : ℕ → ℕ → ℕ → Type 0
OfCleared l w v = OfSlots l w v ⊎ OfCounts logs l w v

-- words 1 to 3 of the superblock of an image of so many lines
abbrev pub OfSuperblock : ℕ → ℕ → ℕ → ℕ → Type 0
OfSuperblock size l w v = (l ≡ 0) × (((w ≡ 1) × (v ≡ version)) ⊎ ((w ≡ 2) × (v ≡ size)) ⊎ ((w ≡ 3) × (v ≡ 0)))

-- all these
abbrev pub OfFront : ℕ → ℕ → ℕ → ℕ → Type 0
OfFront size l w v = OfCleared l w v ⊎ OfSuperblock size l w v

-- and the magic word
abbrev pub OfLayout : ℕ → ℕ → ℕ → ℕ → Type 0
OfLayout size l w v = OfFront size l w v ⊎ IsGiven 0 0 magic l w v

-- ---- the order of what is durable

-- the root slots and the counts of the logs are 0
abbrev pub AreCleared : Outcome → Type 0
AreCleared c = (l w v : ℕ) → OfCleared l w v → c l w ≡ v

-- words 1 to 3 of the superblock are what a stop could leave of them before
abbrev pub HasOldSuperblock : Memory → Outcome → Type 0
HasOldSuperblock old c = (w : ℕ) → 0 < w → w < 4 → CanLeave old 0 w (c 0 w)

-- A superblock comes behind cleared root slots and counts: while it isn't there, or else they are all 0.
abbrev pub IsCleared : Memory → Outcome → Type 0
IsCleared old c = HasOldSuperblock old c ⊎ AreCleared c
