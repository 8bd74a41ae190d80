-- What a stop within pairing leaves of a half.
use Rattle.std.specs.Prelude.{◌≡◌, ◌⊎◌, ◌<◌, ◌≤◌, ℕ, true, Option, Some, None, length}
use Rattle.line_image.specs.Trace.{Trace, Outcome, versions}
use Rattle.mirror_image.specs.Sound.{one_has, done_in}
use Rattle.mirror_image.specs.Labels.{label_of, generation}
use Rattle.mirror_image.specs.Stops.{Made, without}

-- whatever a stop leaves of the label, its word 1 is below m
pub record LowLabel (z m : ℕ) (o : Option Trace) : Type 0 where
  pub some : 0 < m
  pub low : (h : Trace) → o ≡ Some h → (u : ℕ) → one_has (versions h z) 1 u ≡ true → u < m

-- whatever a stop leaves of the label, its generation is below m
pub record LowGeneration (z m : ℕ) (o : Option Trace) : Type 0 where
  pub some : 0 < m
  pub low : (h : Trace) → o ≡ Some h → (v u : ℕ) → one_has (versions h z) 0 v ≡ true → one_has (versions h z) 1 u ≡ true
      → generation (label_of v u) < m

-- how low a half is that is no leader: where its label is none, as long as it isn't cleared
abbrev pub IsLow : ℕ → ℕ → Option ℕ → Option Trace → Type 0
IsLow z m None o = LowGeneration z m o
IsLow z m (Some g) o = LowLabel z m o

-- whatever a stop leaves of the label, its generation is g at least
abbrev pub HighLabel : ℕ → ℕ → Option Trace → Type 0
HighLabel z g o = (h : Trace) → o ≡ Some h
    → (g ≡ 0) ⊎ (((v : ℕ) → one_has (versions h z) 0 v ≡ true → v ≡ 5931049747640832065) × ((u : ℕ) → one_has (versions h z) 1 u ≡ true → g ≤ u))

-- whatever a stop leaves of the lines below z, it is this
abbrev pub Shows : ℕ → Outcome → Option Trace → Type 0
Shows z c o = (h : Trace) → o ≡ Some h → (l w v : ℕ) → l < z → one_has (versions h l) w v ≡ true → v ≡ c l w

-- it leads, or shows the same as what leads
pub record Leads (z g : ℕ) (c : Outcome) (o : Option Trace) : Type 0 where
  pub label : HighLabel z g o
  pub lines : Shows z c o

-- it doesn't lead, or it shows the same as what leads
abbrev pub Yields : ℕ → ℕ → Outcome → Option Trace → Type 0
Yields z m c o = LowGeneration z m o ⊎ Shows z c o

-- it holds of each of the traces by which p is made of o
pub record Stages (P : Option Trace → Type 0) (o p : Option Trace) : Type 0 where
  pub grown : length (done_in o) ≤ length (done_in p)
  pub each : (i : ℕ) → Made i o p → P (without i p)

-- What makes q of p keeps it low, and what a stop leaves yields to the half that shows c.
abbrev pub KeepsLow : ℕ → Option Trace → Option Trace → Type 0
KeepsLow z p q = (m : ℕ) (c : Outcome) (o : Option Trace) → LowLabel z m p → Stages (Yields z m c) o p → LowLabel z m q × Stages (Yields z m c) o q

-- the same, where the half that leads shows this, and q may come to show it too
abbrev pub KeepsYield : ℕ → Option Trace → Option Trace → Option Trace → Type 0
KeepsYield z leading p q = (m : ℕ) (c : Outcome) (o : Option Trace) (k : Trace) → leading ≡ Some k → Shows z c leading → LowLabel z m p → Stages (Yields z m c) o p → Stages (Yields z m c) o q

-- what makes q of p, the half that leads, marks it as of generation k at most
abbrev pub KeepsLead : ℕ → ℕ → Option Trace → Option Trace → Type 0
KeepsLead z k p q = (g : ℕ) (c : Outcome) (o : Option Trace) → g ≤ k → Stages (Leads z g c) o p → Stages (Leads z g c) o q

-- The half that leads, by a label of generation g, and the other one.
abbrev pub KeepsBoth : ℕ → ℕ → ℕ → Option ℕ → Option Trace → Option Trace → Option Trace → Option Trace → Type 0
KeepsBoth z k g label o p o' p' = (m : ℕ) (c : Outcome) (h : Trace) → o ≡ Some h → g ≤ k → Leads z g c o → IsLow z m label p
    → Stages (Leads z g c) o o' × Stages (Yields z m c) p p'
