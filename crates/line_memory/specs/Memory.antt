-- A memory of lines over an image: what each word shows, and what a stop may leave of it.
--
-- A processor's cache holds lines that a stop loses, and writes a line back at any time (PLDI 2019,
-- AutoPersist: CLWB and SFENCE order what is durable). Other crates speak of a memory by the words below
-- alone.
use Rattle.std.specs.Prelude.{◌≡◌, ◌⊎◌, ◌<◌, ℕ, List, [], Option, Some, None, get_or, slice_index}
use Rattle.ap_base.specs.Causes.{next_count}
use Rattle.line_image.specs.Trace.{Trace, Outcome, MayLeave, read_word, did}
use Rattle.line_image.specs.Told.{Told}
use Rattle.line_image.specs.declared.effect.Done.TheVariants.{Wrote, Fenced}

-- the words of the lines that it keeps, how many lines the image has, how many image calls the memory has
-- made, how often the image has failed, and what the image tells (of which `size` is a part)
pub record Memory : Type 0 where
  pub lines : List (List ℕ)
  pub size : ℕ
  pub calls : ℕ
  pub faults : ℕ
  pub image : Told

-- the line is resident: its words are kept in the memory
unfoldable pub IsResident : Memory → ℕ → Type 0
IsResident m l = l < m.size

-- the touch before this made room for the line, which isn't resident yet
unfoldable pub IsAwaited : Memory → ℕ → Type 0
IsAwaited m l = ⊥

-- what a line shows, and a word of it
unfoldable pub line_shown : Memory → ℕ → List ℕ
line_shown m l = get_or m.lines l []

abbrev pub shown : Memory → ℕ → ℕ → ℕ
shown m l w = slice_index (line_shown m l) w

-- the image tells what was done to it
abbrev pub IsTelling : Option Trace → Type 0
IsTelling None = ⊥
IsTelling (Some h) = Unit {0}

-- What the line shows is known: it is resident, or the image tells what a read will give.
abbrev pub IsKnown : Memory → ℕ → Type 0
IsKnown m l = IsResident m l ⊎ IsTelling m.image.trace

-- a read gives this value in the word
abbrev pub ReadsWord : Option Trace → ℕ → ℕ → ℕ → Type 0
ReadsWord None l w v = Unit {0}
ReadsWord (Some h) l w v = v ≡ read_word h l w

-- A stop from now on leaves this value in the word, if nothing is stored to it: whichever lines are written
-- back, and when.
abbrev pub CanLeave : Memory → ℕ → ℕ → ℕ → Type 0
CanLeave m l w v = (v ≡ shown m l w) ⊎ MayLeave m.image.trace l w v

-- these words are all such values
abbrev pub CanLeaveAll : Memory → Outcome → Type 0
CanLeaveAll m c = (l w : ℕ) → CanLeave m l w (c l w)

-- the word is written back as it is shown: a fence that succeeds makes it durable
abbrev pub IsWritten : Memory → ℕ → ℕ → Type 0
IsWritten m l w = ReadsWord m.image.trace l w (shown m l w)

-- the word is durable: a stop from now on leaves what it shows, if nothing is stored to it
abbrev pub IsDurable : Memory → ℕ → ℕ → Type 0
IsDurable m l w = (v : ℕ) → CanLeave m l w v → v ≡ shown m l w

-- The words of what calls do. A relation between two states takes the old one, then the new one.

-- the same words of each line that is known before and after
abbrev pub SameShown : Memory → Memory → Type 0
SameShown old new = (l w : ℕ) → IsKnown old l → IsKnown new l → shown new l w ≡ shown old l w

-- the same lines are resident
abbrev pub KeepsResident : Memory → Memory → Type 0
KeepsResident old new = (l : ℕ) → IsResident old l → IsResident new l

pub record SameResident (old new : Memory) : Type 0 where
  pub kept : KeepsResident old new
  pub none_more : KeepsResident new old

-- an image that tells what was done to it goes on telling it
abbrev pub KeepsTelling : Memory → Memory → Type 0
KeepsTelling old new = IsTelling old.image.trace → IsTelling new.image.trace

-- no word can be left as anything but what it could be left as before
abbrev pub Narrows : Memory → Memory → Type 0
Narrows old new = (l w v : ℕ) → CanLeave new l w v → CanLeave old l w v

-- a read gives in each word what it gave before, or what the word shows
abbrev pub ReadsOrShows : Memory → Memory → Type 0
ReadsOrShows old new = (l w v : ℕ) → ReadsWord new.image.trace l w v
    → ReadsWord old.image.trace l w v ⊎ (v ≡ shown old l w)

-- a word that was written back as it is shown is so still
abbrev pub StillWritten : Memory → Memory → Type 0
StillWritten old new = (l w : ℕ) → IsWritten old l w → IsWritten new l w

-- a stop leaves of each word only what it left before, and a read gives what it gave before
abbrev pub LeavesNoMore : Memory → Memory → Type 0
LeavesNoMore old new = (l w v : ℕ) → MayLeave new.image.trace l w v → MayLeave old.image.trace l w v

abbrev pub SameReads : Memory → Memory → Type 0
SameReads old new = (l w v : ℕ) → ReadsWord new.image.trace l w v → ReadsWord old.image.trace l w v

-- one call of the image was made: both counts go up by one, and stay at their end
pub record OneCall (old new : Memory) : Type 0 where
  pub calls : new.calls ≡ next_count old.calls
  pub image : new.image.calls ≡ next_count old.image.calls

-- no call was made, and the image is as it was
pub record SameImage (old new : Memory) : Type 0 where
  pub calls : new.calls ≡ old.calls
  pub image : new.image ≡ old.image
  pub faults : new.faults ≡ old.faults

-- the image was told to write the line as it is shown, or to fence, or nothing was done
abbrev pub WroteLine : ℕ → Memory → Memory → Type 0
WroteLine l old new = new.image.trace ≡ did (Wrote l (line_shown old l)) new.image.calls old.image.trace

abbrev pub MadeFence : Memory → Memory → Type 0
MadeFence old new = new.image.trace ≡ did Fenced new.image.calls old.image.trace

abbrev pub DidNothing : Memory → Memory → Type 0
DidNothing old new = new.image.trace ≡ old.image.trace
