-- What steps on a line memory do to the words that they store to, and to all others. A processor's cache may hold any of the lines (CLWB and
-- SFENCE, Intel 64 and IA-32 Architectures Software Developer's Manual, volume 2): nothing here says that all are resident.
use Rattle.std.specs.Prelude.{◌≡◌, ◌⊎◌, ◌<◌, ◌≤◌, ◌+◌, ◌^◌, ℕ}
use Rattle.line_image.specs.Trace.{Outcome}
use Rattle.ap_base.specs.Causes.{next_count}
use Rattle.line_memory.specs.Memory.{Memory, shown, IsKnown, IsTelling, CanLeave, CanLeaveAll, IsWritten, KeepsTelling}
use Rattle.line_memory.specs.Memory.{SameImage, OneCall}
use Rattle.line_memory.specs.Moments.{Goes, CountsFrom}

-- the image tells what was done to it
abbrev pub Tells : Memory → Type 0
Tells m = IsTelling m.image.trace

-- What each line of the image shows is known. It is so once the image is attached, and wherever the image tells.
abbrev pub AllKnown : Memory → Type 0
AllKnown m = (l : ℕ) → l < m.size → IsKnown m l

-- this value, and no other, is what a stop leaves of the word
abbrev pub IsFixed : Memory → ℕ → ℕ → ℕ → Type 0
IsFixed m l w v = (x : ℕ) → CanLeave m l w x → x ≡ v

-- the word shows this value and is written back as it is shown
pub record IsWrittenAs (m : Memory) (l w v : ℕ) : Type 0 where
  pub shows : shown m l w ≡ v
  pub written : IsWritten m l w

-- no word is given a value
abbrev pub Nothing : ℕ → ℕ → ℕ → Type 0
Nothing l w v = ⊥

-- one word is given this value
abbrev pub IsGiven : ℕ → ℕ → ℕ → ℕ → ℕ → ℕ → Type 0
IsGiven line word value l w v = (l ≡ line) × (w ≡ word) × (v ≡ value)

-- the word is given none
abbrev pub IsLeft : (ℕ → ℕ → ℕ → Type 0) → ℕ → ℕ → Type 0
IsLeft Gives l w = (v : ℕ) → ¬ Gives l w v

-- each word has a value that a stop could leave of it before, or one that it is given
abbrev pub OldOrGiven : (ℕ → ℕ → ℕ → Type 0) → Memory → Outcome → Type 0
OldOrGiven Gives m c = (l w : ℕ) → CanLeave m l w (c l w) ⊎ Gives l w (c l w)

-- Steps stored these values and no others. All other words show what they did, and are written back where they were so; and a stop at any
-- moment leaves of each word what it could leave before, or a value that the word is given.
pub record ChangesTo (Gives : ℕ → ℕ → ℕ → Type 0) (old new : Memory) : Type 0 where
  pub size : new.size ≡ old.size
  pub known : AllKnown old → AllKnown new
  pub shows : AllKnown old → (l w : ℕ) → l < old.size → IsLeft Gives l w → shown new l w ≡ shown old l w
  pub written : Tells old → (l w : ℕ) → l < old.size → IsLeft Gives l w → IsWritten old l w → IsWritten new l w
  pub leaves : (l w v : ℕ) → CanLeave new l w v → CanLeave old l w v ⊎ Gives l w v
  pub any_moment : Goes old.image new.image (OldOrGiven Gives old)
  pub telling : KeepsTelling old new

-- the count of the memory's calls, of 64 bits, didn't fall
abbrev pub CallsGoOn : Memory → Memory → Type 0
CallsGoOn old new = old.calls < 2 ^ 64 → (old.calls ≤ new.calls) × (new.calls < 2 ^ 64)

-- so many further calls of the image were made, or fewer
abbrev pub CallsAtMost : Memory → Memory → ℕ → Type 0
CallsAtMost old new most = new.calls ≤ old.calls + most

-- two calls of the image were made: both counts go up by two, and stay at their end
pub record TwoCalls (old new : Memory) : Type 0 where
  pub calls : new.calls ≡ next_count (next_count old.calls)
  pub image : new.image.calls ≡ next_count (next_count old.image.calls)

-- no call of the image was made, or one, or two
abbrev pub TwoCallsAtMost : Memory → Memory → Type 0
TwoCallsAtMost old new = SameImage old new ⊎ OneCall old new ⊎ TwoCalls old new

-- What each call keeps, whatever the image tells.
pub record GoesOn (old new : Memory) : Type 0 where
  pub size : new.size ≡ old.size
  pub telling : KeepsTelling old new
  -- an image that tells nothing goes on so
  pub silent : KeepsTelling new old
  pub counts : (begin : ℕ) → CountsFrom begin old → CountsFrom begin new
  pub calls : CallsGoOn old new

-- Steps gave the words these values: they show them, and are written back as they are shown.
pub record WritesAll (Gives : ℕ → ℕ → ℕ → Type 0) (old new : Memory) : Type 0 where
  pub shows : AllKnown old → (l w v : ℕ) → Gives l w v → shown new l w ≡ v
  pub written : Tells old → (l w v : ℕ) → Gives l w v → IsWrittenAs new l w v

-- of each of these words a stop leaves the value that it is given, and nothing else
abbrev pub AllFixed : (ℕ → ℕ → ℕ → Type 0) → Memory → Type 0
AllFixed Gives m = (l w v : ℕ) → Gives l w v → IsFixed m l w v

-- Each stop from the old memory on to the new one, and each after that, leaves words that have P.
pub record StopsLeave (old new : Memory) (P : Outcome → Type 0) : Type 0 where
  pub within : Goes old.image new.image P
  pub after : (c : Outcome) → CanLeaveAll new c → P c
