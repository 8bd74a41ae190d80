-- What a stop leaves of the halves that a mirror uses.
use Rattle.std.specs.Prelude.{◌≡◌, ◌<◌, ◌-◌, ℕ, Bool, true, false, Option, Some, None}
use Rattle.line_image.specs.Trace.{Trace, MayLeave}
use Rattle.line_image.specs.Told.{Told}
use Rattle.mirror_image.specs.declared.halves.Left.{Left}
use Rattle.mirror_image.specs.declared.halves.Left.TheVariants.{Both, First, Second}
use Rattle.mirror_image.specs.declared.state.State.{State}
use Rattle.mirror_image.specs.declared.state.State.TheVariants.{Paired, Closed}
use Rattle.mirror_image.specs.Joint.{told_by}

abbrev pub uses_first : Left → Bool → Bool
uses_first Both alive = alive
uses_first First alive = alive
uses_first Second alive = false

abbrev pub uses_second : Left → Bool → Bool
uses_second Both alive = alive
uses_second First alive = false
uses_second Second alive = alive

abbrev pub BothTell : Option Trace → Option Trace → Type 0
BothTell None p = ⊥
BothTell (Some h) None = ⊥
BothTell (Some h) (Some k) = Unit {0}

-- Where both halves tell, what a stop now leaves of a shown line of a half that is used, it leaves of the mirror.
pub record UsedLeave (a b : Told) (left : Left) (alive : Bool) (less extra : ℕ) : Type 0 where
  pub first : uses_first left alive ≡ true → BothTell a.trace b.trace → (l w v : ℕ) → l < a.size - 1 → MayLeave a.trace l w v
      → MayLeave (told_by a b left less extra).trace l w v
  pub second : uses_second left alive ≡ true → BothTell a.trace b.trace → (l w v : ℕ) → l < a.size - 1 → MayLeave b.trace l w v
      → MayLeave (told_by a b left less extra).trace l w v

-- it holds of the halves, where they are paired
abbrev pub OfPaired : {P C : Type 0} → (P → Type 0) → State P C → Type 0
OfPaired is (Paired halves) = is halves
OfPaired is (Closed halves) = Unit {0}
