-- The stop set of a word: what a stop may leave of it though lines are written back at any further moment.
--
-- A cached line reaches durable memory at any time after its store, and surely once a write-back (CLWB) that a
-- fence (SFENCE) followed (Raad, Wickerson, Neiger and Vafeiadis, "Persistency semantics of the Intel-x86
-- architecture", POPL 2020).
use Rattle.std.specs.Prelude.{◌≡◌, ◌⊎◌, ℕ, List, [], ◌∷◌, Bool, true, false, ◌&&◌, ◌||◌, ◌==◌, IsTrue}
use Rattle.line_image.specs.Trace.{MayLeave}
use Rattle.line_memory.specs.Memory.{Memory, shown}
use Rattle.line_memory.specs.Steps.{Deed, WroteBack, Fenced, Stored, Neither, Step, last}

abbrev pub is_fence : Deed → Bool
is_fence Fenced = true
is_fence (WroteBack l) = false
is_fence (Stored l w v) = false
is_fence Neither = false

abbrev pub writes : ℕ → Deed → Bool
writes l (WroteBack line) = line == l
writes l Fenced = false
writes l (Stored line w v) = false
writes l Neither = false

-- The word showed this value since its line's last write that a fence followed, or since the first memory.
-- `fenced` says whether a fence comes after these steps.
abbrev pub ShownSince : Memory → ℕ → ℕ → Bool → List Step → ℕ → Type 0
ShownSince first l w fenced [] v = v ≡ shown first l w
ShownSince first l w fenced (step ∷ steps) v =
    (v ≡ shown step.after l w)
    ⊎ ((IsTrue (fenced && writes l step.deed) → ⊥)
    × ShownSince first l w (fenced || is_fence step.deed) steps v)

-- what is fenced of the word or was written to it since, and what it showed since
abbrev pub InStopSet : Memory → List Step → ℕ → ℕ → ℕ → Type 0
InStopSet first steps l w v = MayLeave (last first steps).image.trace l w v
    ⊎ ShownSince first l w false steps v
