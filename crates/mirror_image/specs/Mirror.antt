-- What a mirror tells that is paired, and one that is closed.
use Rattle.std.specs.Prelude.{◌≡◌, ◌≢◌, ◌⊎◌, ◌<◌, ◌^◌, ℕ, None}
use Rattle.line_image.specs.Told.{Told, IsCounted}
use Rattle.mirror_image.specs.declared.state.State.{State}
use Rattle.mirror_image.specs.declared.state.State.TheVariants.{Paired, Closed}

-- a closed one shows 32,768 lines, and tells nothing of what was done
abbrev pub told_of : {P C : Type 0} → (P → Told) → ℕ → State P C → Told
told_of told failures (Paired halves) = told halves
told_of told failures (Closed halves) = record { size = 32768; calls = failures; trace = None }

-- each call of a closed one fails
abbrev pub faults_of : {P C : Type 0} → (P → ℕ) → ℕ → State P C → ℕ
faults_of faults failures (Paired halves) = faults halves
faults_of faults failures (Closed halves) = failures

abbrev pub halves_of : {P C : Type 0} → (P → C) → State P C → C
halves_of both (Paired halves) = both halves
halves_of both (Closed halves) = halves

-- it is paired, and this holds of its halves
abbrev pub IsPairedAs : {P C : Type 0} → (P → Type 0) → State P C → Type 0
IsPairedAs is (Paired halves) = is halves
IsPairedAs is (Closed halves) = ⊥

-- a call leaves it paired, and this holds of its halves before and after; or leaves it closed, over the same halves as before
abbrev pub OfCall : {P C : Type 0} → (P → P → Type 0) → State P C → State P C → Type 0
OfCall is (Paired before) (Paired after) = is before after
OfCall is (Paired before) (Closed after) = ⊥
OfCall is (Closed before) (Paired after) = ⊥
OfCall is (Closed before) (Closed after) = after ≡ before

abbrev pub is_closed : {P C : Type 0} → State P C → Type 0
is_closed (Paired halves) = ⊥
is_closed (Closed halves) = Unit {0}

-- the halves are of two sizes, or have no line beside the label
abbrev pub HalvesDiffer : ℕ → ℕ → Type 0
HalvesDiffer a b = (a ≢ b) ⊎ (a < 2)

pub in_order_of : {P C : Type 0} (told : P → Told) → ((halves : P) → IsCounted (told halves)) → (failures : ℕ) → failures < 2 ^ 64
    → (state : State P C) → IsCounted (told_of told failures state)
in_order_of told counted failures fits (Paired halves) = counted halves
in_order_of told counted failures fits (Closed halves) = record { fits = fits; order = tt }
