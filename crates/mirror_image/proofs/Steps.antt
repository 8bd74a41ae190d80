-- What holds of a mirror after a call, from what the calls on its halves did.
use Rattle.std.proofs.Common.{◌≡◌, ◌⊎◌, inl, inr, ◌≤◌, ◌-◌, ℕ, zero, suc, Bool, true, false, Option, Some, None, All, sym, subst, ◌∙◌, arith}
use Rattle.line_image.specs.Trace.{Trace, did}
use Rattle.line_image.specs.Told.{Told}
use Rattle.line_image.specs.declared.effect.Effect.{Effect}
use Rattle.line_image.specs.declared.effect.Done.{Done}
use Rattle.mirror_image.specs.declared.halves.Left.{Left}
use Rattle.mirror_image.specs.declared.halves.Left.TheVariants.{Both, First, Second}
use Rattle.mirror_image.specs.Joint.{calls_by, told_from, ahead_by}
use Rattle.mirror_image.specs.Sound.{IsSoundBy, BothLive, FirstLives, SecondLives, done_in, both_used, first_used, second_used}

abbrev pub SoFar : ℕ → Option Trace → Type 0
SoFar n o = All (λ (effect : Effect). effect.at ≤ n) (done_in o)

-- the same is told, or one more with this number
abbrev pub Adds : ℕ → Option Trace → Option Trace → Type 0
Adds at o p = (p ≡ o) ⊎ ((d : Done) × (p ≡ did d at o))

so_far_later : (n m : ℕ) (o : Option Trace) → n ≤ m → SoFar n o → SoFar m o
so_far_later n m o later so_far k d lt = omega (arith, so_far k d lt)

so_far_did : (n m : ℕ) (d : Done) (o : Option Trace) → n ≤ m → SoFar n o → SoFar m (did d m o)
so_far_did n m d None later so_far k e lt = absurd (omega (arith, lt))
so_far_did n m d (Some h) later so_far zero e lt = omega arith
so_far_did n m d (Some h) later so_far (suc k) e lt = omega (arith, so_far k e (omega (arith, lt)))

pub so_far_adds : (n m : ℕ) (o p : Option Trace) → n ≤ m → Adds m o p → SoFar n o → SoFar m p
so_far_adds n m o p later (inl is) so_far = subst (SoFar m) (sym is) (so_far_later n m o later so_far)
so_far_adds n m o p later (inr add) so_far = subst (SoFar m) (sym add.1) (so_far_did n m add.0 o later so_far)

pub never_both : (left : Left) {A : Type 0} → both_used left false ≡ true → A
never_both Both e = cc
never_both First e = cc
never_both Second e = cc

pub never_first : (left : Left) {A : Type 0} → first_used left false ≡ true → A
never_first Both e = cc
never_first First e = cc
never_first Second e = cc

pub never_second : (left : Left) {A : Type 0} → second_used left false ≡ true → A
never_second Both e = cc
never_second First e = cc
never_second Second e = cc

-- both halves have failed
pub sound_dead : (ahead : ℕ) (a b a' b' : Told) (left left' : Left) (alive : Bool) (less extra less' extra' : ℕ)
    → IsSoundBy ahead a b left alive less extra → ahead ≡ ahead_by (a'.size - 1) left' b'.trace → a'.size ≡ a.size → b'.size ≡ b.size → less' ≤ 2
    → calls_by ahead a.calls less extra ≤ calls_by ahead a'.calls less' extra'
    → Adds (calls_by ahead a'.calls less' extra') (told_from ahead a b left less extra).trace (told_from ahead a' b' left' less' extra').trace
    → IsSoundBy ahead a' b' left' false less' extra'
sound_dead ahead a b a' b' left left' alive less extra less' extra' sound number size_a size_b few later adds = record {
  number = number;
  some = omega (arith, size_a, sound.some);
  sizes = size_b ∙ sound.sizes ∙ sym size_a;
  few = few;
  so_far = so_far_adds _ _ _ _ later adds sound.so_far;
  both = never_both left';
  first = never_first left';
  second = never_second left';
}

pub sound_both : (ahead : ℕ) (a b a' b' : Told) (less extra : ℕ)
    → IsSoundBy ahead a b Both true less extra → ahead ≡ ahead_by (a'.size - 1) Both b'.trace → a'.size ≡ a.size → b'.size ≡ b.size
    → calls_by ahead a.calls less extra ≤ calls_by ahead a'.calls less extra
    → Adds (calls_by ahead a'.calls less extra) (told_from ahead a b Both less extra).trace (told_from ahead a' b' Both less extra).trace
    → BothLive ahead a' b' less extra
    → IsSoundBy ahead a' b' Both true less extra
sound_both ahead a b a' b' less extra sound number size_a size_b later adds lives = record {
  number = number;
  some = omega (arith, size_a, sound.some);
  sizes = size_b ∙ sound.sizes ∙ sym size_a;
  few = sound.few;
  so_far = so_far_adds _ _ _ _ later adds sound.so_far;
  both = λ e. lives;
  first = λ e. cc;
  second = λ e. cc;
}

pub sound_first : (ahead : ℕ) (a b a' b' : Told) (left : Left) (less extra less' extra' : ℕ)
    → IsSoundBy ahead a b left true less extra → ahead ≡ ahead_by (a'.size - 1) First b'.trace → a'.size ≡ a.size → b'.size ≡ b.size
    → calls_by ahead a.calls less extra ≤ calls_by ahead a'.calls less' extra'
    → Adds (calls_by ahead a'.calls less' extra') (told_from ahead a b left less extra).trace (told_from ahead a' b' First less' extra').trace
    → FirstLives a' less' extra'
    → IsSoundBy ahead a' b' First true less' extra'
sound_first ahead a b a' b' left less extra less' extra' sound number size_a size_b later adds lives = record {
  number = number;
  some = omega (arith, size_a, sound.some);
  sizes = size_b ∙ sound.sizes ∙ sym size_a;
  few = omega (arith, lives.two_less);
  so_far = so_far_adds _ _ _ _ later adds sound.so_far;
  both = λ e. cc;
  first = λ e. lives;
  second = λ e. cc;
}

pub sound_second : (ahead : ℕ) (a b a' b' : Told) (left : Left) (less extra less' extra' : ℕ)
    → IsSoundBy ahead a b left true less extra → ahead ≡ ahead_by (a'.size - 1) Second b'.trace → a'.size ≡ a.size → b'.size ≡ b.size
    → calls_by ahead a.calls less extra ≤ calls_by ahead a'.calls less' extra'
    → Adds (calls_by ahead a'.calls less' extra') (told_from ahead a b left less extra).trace (told_from ahead a' b' Second less' extra').trace
    → SecondLives ahead a' b' less' extra'
    → IsSoundBy ahead a' b' Second true less' extra'
sound_second ahead a b a' b' left less extra less' extra' sound number size_a size_b later adds lives = record {
  number = number;
  some = omega (arith, size_a, sound.some);
  sizes = size_b ∙ sound.sizes ∙ sym size_a;
  few = omega (arith, lives.none_less);
  so_far = so_far_adds _ _ _ _ later adds sound.so_far;
  both = λ e. cc;
  first = λ e. cc;
  second = λ e. lives;
}
