-- What holds of a mirror between its calls, for what a stop leaves.
use Rattle.std.specs.Prelude.{◌≡◌, ◌<◌, ◌-◌, ◌∷◌, ℕ, [], Bool, true, false, Option, Some}
use Rattle.line_image.specs.Trace.{Trace, versions}
use Rattle.mirror_image.specs.declared.halves.Left.{Left}
use Rattle.mirror_image.specs.declared.halves.Left.TheVariants.{Both, First, Second}
use Rattle.mirror_image.specs.Sound.{label_words, one_has}

-- where it tells, its label is of this generation, and fenced
abbrev pub HasLabel : ℕ → ℕ → Option Trace → Type 0
HasLabel z g o = (h : Trace) → o ≡ Some h → versions h z ≡ label_words g ∷ []

-- where both tell, what a stop leaves of a line below z of the one, it may leave of the other
abbrev pub Includes : ℕ → Option Trace → Option Trace → Type 0
Includes z o t = (h k : Trace) → o ≡ Some h → t ≡ Some k → (l w v : ℕ) → l < z
    → one_has (versions h l) w v ≡ true → one_has (versions k l) w v ≡ true

-- no label was begun that isn't fenced
abbrev pub is_labelled : Left → Bool → Bool
is_labelled Both alive = alive
is_labelled First alive = true
is_labelled Second alive = true

abbrev pub shows_first : Left → Bool
shows_first Both = true
shows_first First = true
shows_first Second = false

abbrev pub shows_second : Left → Bool
shows_second Both = true
shows_second First = false
shows_second Second = true

-- A half has the generation of the pairing, and the one that was marked as left alone the next.
abbrev pub first_label : Left → ℕ → ℕ
first_label Both next = next - 1
first_label First next = next
first_label Second next = next - 1

abbrev pub second_label : Left → ℕ → ℕ
second_label Both next = next - 1
second_label First next = next - 1
second_label Second next = next

pub record AreLabelled (z g k : ℕ) (o p : Option Trace) : Type 0 where
  pub first : HasLabel z g o
  pub second : HasLabel z k p

-- Of halves that tell o and p, and a mirror that tells t: the labels say which half was left alone, and the halves that
-- they don't rule out show nothing that the mirror doesn't.
pub record IsSafe (z next : ℕ) (left : Left) (alive : Bool) (o p t : Option Trace) : Type 0 where
  pub some : 0 < next
  pub labels : is_labelled left alive ≡ true → AreLabelled z (first_label left next) (second_label left next) o p
  pub first : shows_first left ≡ true → Includes z o t
  pub second : shows_second left ≡ true → Includes z p t
