-- The calls of a memory one after another, each with what it did.
--
-- What is ordered is the store of a word, the write-back of its line (CLWB) and the fence (SFENCE), as in Raad,
-- Wickerson, Neiger and Vafeiadis, "Persistency semantics of the Intel-x86 architecture", POPL 2020.
use Rattle.std.specs.Prelude.{◌≡◌, ◌≢◌, ◌⊎◌, ℕ, List, [], ◌∷◌}
use Rattle.line_memory.specs.Memory.{Memory, shown, IsResident, SameShown, SameImage, OneCall, WroteLine, MadeFence, DidNothing}

-- what a call did: it wrote a line to the image, or it fenced, or it stored a value to a word of a line, or
-- none of these
pub data Deed : Type 0 where
  WroteBack : ℕ → Deed
  Fenced : Deed
  Stored : ℕ → ℕ → ℕ → Deed
  Neither : Deed

-- a call, and the memory after it
pub record Step : Type 0 where
  pub deed : Deed
  pub after : Memory

-- the memory after all steps, the newest first
abbrev pub last : Memory → List Step → Memory
last first [] = first
last first (step ∷ steps) = step.after

-- it stored to this word of this line
abbrev pub Stores : ℕ → ℕ → Deed → Type 0
Stores l w (WroteBack line) = ⊥
Stores l w Fenced = ⊥
Stores l w (Stored line word v) = (l ≡ line) × (w ≡ word)
Stores l w Neither = ⊥

-- What the clauses of the calls say. First of a write-back or eviction that was made, though it may have failed.
pub record WritesBack (line : ℕ) (old new : Memory) : Type 0 where
  pub resident : IsResident old line
  pub wrote : WroteLine line old new
  pub shows : SameShown old new
  pub count : OneCall old new

-- Of a fence that was made. Where the image tells what was done to it, no failed fence is one. Where it tells
-- nothing, a failed one may be counted as made, and nothing is said of what a stop leaves there.
pub record MakesFence (old new : Memory) : Type 0 where
  pub made : MadeFence old new
  pub shows : SameShown old new
  pub count : OneCall old new

-- of a store: the word shows the value, and all other words show what they did
pub record StoresWord (line word v : ℕ) (old new : Memory) : Type 0 where
  pub same : SameImage old new
  pub here : shown new line word ≡ v
  pub others : (l w : ℕ) → (l ≡ line → w ≢ word) → shown new l w ≡ shown old l w

-- of a touch, and of a write-back or fence that failed and wasn't made
pub record DoesNothing (old new : Memory) : Type 0 where
  pub nothing : DidNothing old new
  pub shows : SameShown old new
  pub count : SameImage old new ⊎ OneCall old new

abbrev pub DidAs : Deed → Memory → Memory → Type 0
DidAs (WroteBack l) old new = WritesBack l old new
DidAs Fenced old new = MakesFence old new
DidAs (Stored l w v) old new = StoresWord l w v old new
DidAs Neither old new = DoesNothing old new

-- the memory leads to this step as one of its calls does
pub record Follows (old : Memory) (step : Step) : Type 0 where
  pub size : step.after.size ≡ old.size
  pub deed : DidAs step.deed old step.after

-- each step follows the one before, and the oldest the first memory
abbrev pub EachFollows : Memory → List Step → Type 0
EachFollows first [] = Unit {0}
EachFollows first (step ∷ steps) = Follows (last first steps) step × EachFollows first steps
