-- The first check that fails, of many.
use Rattle.std.proofs.Common.{◌≡◌, ℕ, zero, suc, ◌<◌, Bool, true, refl, ap, ◌∙◌, Option, Some, None, inl, inr, arith}
use Rattle.std.proofs.lemmas.Bool.{cases_lt}
use Rattle.image_meaning.specs.Checks.{Bad, fails_unless, then_check, first_fault}

-- no check fails where each passes
pub first_fault-none : (check : ℕ → Option Bad) (n : ℕ) → ((i : ℕ) → i < n → check i ≡ None) → first_fault check n ≡ None
unfolding first_fault
first_fault-none check zero passes = refl
first_fault-none check (suc n) passes =
    ap (λ before. then_check before (check n)) (first_fault-none check n (λ i h. passes i (omega (arith, h))))
    ∙ passes n (omega arith)

-- checks that are the same one by one fail alike
pub first_fault-same : (check other : ℕ → Option Bad) (n : ℕ) → ((i : ℕ) → i < n → other i ≡ check i)
    → first_fault other n ≡ first_fault check n
unfolding first_fault
first_fault-same check other zero same = refl
first_fault-same check other (suc n) same =
    ap (λ before. then_check before (other n)) (first_fault-same check other n (λ i h. same i (omega (arith, h))))
    ∙ ap (λ now. then_check (first_fault check n) now) (same n (omega arith))

pub both_none : (a b : Option Bad) → then_check a b ≡ None → (a ≡ None) × (b ≡ None)
both_none None b h = (refl, h)
both_none (Some bad) b h = absurd (let e : Some bad ≡ None = h in cc)

-- where none fails each passes
pub first_fault-passes : (check : ℕ → Option Bad) (n : ℕ) → first_fault check n ≡ None → (i : ℕ) → i < n → check i ≡ None
unfolding first_fault
first_fault-passes check zero none i h = absurd (omega (arith, h))
first_fault-passes check (suc n) none i h =
    let parts = both_none (first_fault check n) (check n) none in
    elim (cases_lt i n) [
      | inl l ↦ first_fault-passes check n parts.0 i l
      | inr l ↦ (let e : i ≡ n = omega (arith, h, l) in ap check e ∙ parts.1)
    ]

pub passes_if : (bad : Bad) (b : Bool) → b ≡ true → fails_unless b bad ≡ None
passes_if bad b h = rw h refl
