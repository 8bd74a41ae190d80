-- Which halves a call of a mirror uses, and when it fails.
use Rattle.std.specs.Prelude.{◌≡◌, ℕ, Bool, true, false, Result, OnOk, OnErr}
use Rattle.ap_base.specs.Causes.{next_count}
use Rattle.line_image.specs.Told.{Told}
use Rattle.mirror_image.specs.declared.halves.Left.{Left}
use Rattle.mirror_image.specs.Leaving.{uses_first, uses_second}
use Rattle.mirror_image.specs.Sound.{both_used}

-- A half that was used, or wasn't, and now is, or isn't; it told this before the call and tells this now, and has failed so often.
-- One that isn't used isn't called. One that is given up failed in this call, once, and is never used again; one that goes on
-- being used didn't fail.
pub record LeavesHalf (was is : Bool) (told told' : Told) (faults faults' : ℕ) : Type 0 where
  pub uncalled : was ≡ false → (told' ≡ told) × (faults' ≡ faults)
  pub given_up : was ≡ true → is ≡ false → faults' ≡ next_count faults
  pub spared : is ≡ true → faults' ≡ faults
  pub for_good : is ≡ true → was ≡ true

-- A call that succeeds leaves a half that is used; one that fails leaves none. Where one half is given up and the other goes on,
-- the one given up was called once: not again, after it failed.
pub record UsesHalves {T E : Type 0} (left left' : Left) (alive alive' : Bool) (a b a' b' : Told) (f g f' g' : ℕ) (result : Result T E) : Type 0 where
  pub first : LeavesHalf (uses_first left alive) (uses_first left' alive') a a' f f'
  pub second : LeavesHalf (uses_second left alive) (uses_second left' alive') b b' g g'
  pub ok : OnOk result (alive' ≡ true)
  pub failed : OnErr result (alive' ≡ false)
  pub once_first : uses_first left alive ≡ true → uses_first left' alive' ≡ false → alive' ≡ true → a'.calls ≡ next_count a.calls
  pub once_second : uses_second left alive ≡ true → uses_second left' alive' ≡ false → alive' ≡ true → b'.calls ≡ next_count b.calls

-- both halves are used
pub record UsesBoth (left : Left) (alive : Bool) : Type 0 where
  pub first : uses_first left alive ≡ true
  pub second : uses_second left alive ≡ true

-- a read that leaves the first half used called the second one not at all
abbrev pub AsksFirst : Left → Bool → Told → Told → ℕ → ℕ → Type 0
AsksFirst left' alive' b b' g g' = uses_first left' alive' ≡ true → (b' ≡ b) × (g' ≡ g)

-- a write or a fence that leaves both halves used called each of them once
abbrev pub CallsBoth : Left → Bool → Told → Told → Told → Told → Type 0
CallsBoth left' alive' a b a' b' = both_used left' alive' ≡ true → (a'.calls ≡ next_count a.calls) × (b'.calls ≡ next_count b.calls)
