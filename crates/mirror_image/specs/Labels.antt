-- The label of a half, its last line: word 0 is the bytes APMIRROR, and word 1 the generation (this project's own format).
use Rattle.std.specs.Prelude.{◌≡◌, ◌⊎◌, ◌<◌, ◌∷◌, ◌==◌, ℕ, List, [], Option, Some, None, slice_index, Bool, if◌then◌else◌, nat_le}
use Rattle.ap_base.specs.Causes.{next_count}
use Rattle.line_image.specs.Trace.{Trace, newest, versions, did}
use Rattle.line_image.specs.Told.{Told}
use Rattle.line_image.specs.declared.effect.Done.TheVariants.{Wrote, Fenced}
use Rattle.mirror_image.specs.Sound.{label_words}

-- the generation of a label of these first two words; None where word 0 isn't that of a label
abbrev pub label_of : ℕ → ℕ → Option ℕ
label_of first second = if first == 5931049747640832065 then Some second else None

abbrev pub label_in : List ℕ → Option ℕ
label_in words = label_of (slice_index words 0) (slice_index words 1)

-- what is no label has generation 0
abbrev pub generation : Option ℕ → ℕ
generation None = 0
generation (Some g) = g

-- the generation that a read of line z gives
abbrev pub generation_at : ℕ → Trace → ℕ
generation_at z h = generation (label_in (newest (versions h z)))

-- the first half leads: it is of greater generation, or they are of the same
abbrev pub leads : Option ℕ → Option ℕ → Bool
leads first second = nat_le (generation second) (generation first)

-- the half that leads
abbrev pub leader : ℕ → Trace → Trace → Trace
leader z h k = if nat_le (generation_at z k) (generation_at z h) then h else k

-- where it tells, this is what its label says
abbrev pub IsLabel : ℕ → Option ℕ → Option Trace → Type 0
IsLabel z label o = (h : Trace) → o ≡ Some h → label ≡ label_in (newest (versions h z))

abbrev pub zero_words : List ℕ
zero_words = 0 ∷ 0 ∷ 0 ∷ 0 ∷ 0 ∷ 0 ∷ 0 ∷ 0 ∷ []

-- Its label stays, or zeros were written over it and fenced.
abbrev pub IsCleared : ℕ → Option ℕ → Told → Told → Type 0
IsCleared z (Some g) old new = new ≡ old
IsCleared z None old new =
    (new.calls ≡ next_count (next_count old.calls))
    × (new.trace ≡ did Fenced new.calls (did (Wrote z zero_words) (next_count old.calls) old.trace))

-- The zeros are there, or aren't, and aren't fenced.
abbrev pub IsNotCleared : ℕ → Option ℕ → Told → Told → Type 0
IsNotCleared z (Some g) old new = ⊥
IsNotCleared z None old new =
    (new.trace ≡ did (Wrote z zero_words) (next_count old.calls) old.trace) ⊎ (new.trace ≡ old.trace)

-- the last that was done to it is this label and its fence, call number `fence`
pub record IsLabelled (z g fence : ℕ) (o : Option Trace) : Type 0 where
  pub before : Option Trace
  pub at : ℕ
  pub is : o ≡ did Fenced fence (did (Wrote z (label_words g)) at before)

-- where the one tells, the other does, and reads of the lines below z give the same
abbrev pub KeepsReads : ℕ → Option Trace → Option Trace → Type 0
KeepsReads z o p = (h : Trace) → o ≡ Some h
    → (k : Trace) × ((p ≡ Some k) × ((l : ℕ) → l < z → newest (versions k l) ≡ newest (versions h l)))
