-- The laws of stop sets. Each is said of any calls of any memory.
--
-- A write-back that comes by itself, at any moment, adds nothing to what a stop may leave; a write-back that a
-- fence followed takes all else away (Raad, Wickerson, Neiger and Vafeiadis, "Persistency semantics of the
-- Intel-x86 architecture", POPL 2020).
use Rattle.std.specs.Prelude.{◌≡◌, ◌⊎◌, ◌↔◌, ℕ, List, [], ◌∷◌, ◌++◌, All, IsTrue}
use Rattle.line_image.specs.Trace.{MayLeave}
use Rattle.line_memory.specs.Memory.{Memory, shown, IsResident, IsKnown, IsTelling, ReadsWord, CanLeave, MadeFence}
use Rattle.line_memory.specs.Steps.{Step, WroteBack, Fenced, Stores, last, Follows, EachFollows}
use Rattle.line_memory.specs.StopSet.{writes, InStopSet}

-- the word isn't stored to in any of these steps
abbrev pub NoneStores : ℕ → ℕ → List Step → Type 0
NoneStores l w steps = All (λ (step : Step). ¬ Stores l w step.deed) steps

-- Until the next store to the word, whichever lines are written back and when, a stop leaves nothing of it that
-- isn't in its stop set now.
abbrev pub StopsStayInside : Type 0
StopsStayInside = (first : Memory) (later steps : List Step) (l w v : ℕ)
    → EachFollows first (later ++ steps) → IsKnown first l → NoneStores l w later
    → CanLeave (last first (later ++ steps)) l w v → InStopSet first steps l w v

-- One more step adds to the stop set at most what the word shows then.
abbrev pub AddsWhatIsShown : Type 0
AddsWhatIsShown = (first : Memory) (step : Step) (steps : List Step) (l w v : ℕ)
    → Follows (last first steps) step
    → InStopSet first (step ∷ steps) l w v → InStopSet first steps l w v ⊎ (v ≡ shown step.after l w)

-- A step that doesn't store to the word adds nothing.
abbrev pub StoresAloneAdd : Type 0
StoresAloneAdd = (first : Memory) (step : Step) (steps : List Step) (l w v : ℕ)
    → EachFollows first (step ∷ steps) → IsKnown first l → ¬ Stores l w step.deed
    → InStopSet first (step ∷ steps) l w v → InStopSet first steps l w v

-- a line is written back, and later, after some steps, a fence is made
abbrev pub write_and_fence : ℕ → Memory → List Step → Memory → List Step → List Step
write_and_fence l written between fenced earlier =
    record { deed = Fenced; after = fenced } ∷ between ++ record { deed = WroteBack l; after = written } ∷ earlier

-- Where the word's line was written back after the word's last store, and a fence was made since, its stop set
-- is what it shows, alone.
abbrev pub FencedStandsAlone : Type 0
FencedStandsAlone = (first written fenced : Memory) (later between earlier : List Step) (l w v : ℕ)
    → EachFollows first (later ++ write_and_fence l written between fenced earlier) → IsKnown first l
    → NoneStores l w later → NoneStores l w between
    → InStopSet first (later ++ write_and_fence l written between fenced earlier) l w v
    ↔ (v ≡ shown (last first (later ++ write_and_fence l written between fenced earlier)) l w)

-- After a fence a stop leaves of each word what a read gave then: what its line's last write-back before the fence gave it, also where
-- the word was stored to again since.
abbrev pub FencesLeaveWhatIsRead : Type 0
FencesLeaveWhatIsRead = (old new : Memory) (l w v : ℕ) → MadeFence old new
    → MayLeave new.image.trace l w v → ReadsWord old.image.trace l w v

-- the word showed this value at a write-back of its line, among these steps
abbrev pub ShownAtWrite : ℕ → ℕ → ℕ → List Step → Type 0
ShownAtWrite l w v [] = ⊥
ShownAtWrite l w v (step ∷ steps) = (IsTrue (writes l step.deed) × (v ≡ shown step.after l w)) ⊎ ShownAtWrite l w v steps

-- What a read gives was shown at a write-back, or was read at first.
abbrev pub ReadsGiveWhatWasWritten : Type 0
ReadsGiveWhatWasWritten = (first : Memory) (steps : List Step) (l w v : ℕ) → EachFollows first steps → IsKnown first l
    → ReadsWord (last first steps).image.trace l w v
    → ReadsWord first.image.trace l w v ⊎ ShownAtWrite l w v steps

-- the same calls, with further write-backs among them
pub data AddsWriteBacks : List Step → List Step → Type 0 where
  Nothing : AddsWriteBacks [] []
  Same : (step other : Step) (steps more : List Step) → other.deed ≡ step.deed → AddsWriteBacks steps more
      → AddsWriteBacks (step ∷ steps) (other ∷ more)
  Added : (line : ℕ) (written : Memory) (steps more : List Step) → AddsWriteBacks steps more
      → AddsWriteBacks steps (record { deed = WroteBack line; after = written } ∷ more)

-- had lines been written back at further moments, a stop might leave the value
pub record IsLeftByWriteBacks (first : Memory) (steps : List Step) (l w v : ℕ) : Type 0 where
  pub more : List Step
  pub same : AddsWriteBacks steps more
  pub follows : EachFollows first more
  pub left : MayLeave (last first more).image.trace l w v

-- Whichever lines are written back at further moments, a stop leaves nothing that isn't in the stop set.
abbrev pub NoneElseIsLeft : Type 0
NoneElseIsLeft = (first : Memory) (steps : List Step) (l w v : ℕ)
    → EachFollows first steps → IsKnown first l
    → IsLeftByWriteBacks first steps l w v → InStopSet first steps l w v

-- And each value that is in it might be left so.
abbrev pub EachIsLeft : Type 0
EachIsLeft = (first : Memory) (steps : List Step) (l w v : ℕ)
    → EachFollows first steps → IsTelling first.image.trace → IsResident first l
    → InStopSet first steps l w v → IsLeftByWriteBacks first steps l w v
