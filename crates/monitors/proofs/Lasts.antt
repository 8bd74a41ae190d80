-- The last one of a bucket.
use Rattle.std.proofs.Common.{◌≡◌, ◌≢◌, ℕ, zero, suc, ◌<◌, ◌≤◌, cond, refl, ap, ◌∙◌, sym, arith, subst, eq-eqb, inl, inr}
use Rattle.std.proofs.lemmas.Bool.{cases_eq, ne_eqb}
use Rattle.monitors.specs.Indexed.{last_in}

last_hit : (g : ℕ → ℕ) (b n : ℕ) → g n ≡ b → last_in g b (suc n) ≡ suc n
last_hit g b n e = ap (λ c. cond c (suc n) (last_in g b n)) (eq-eqb (g n) b e)

last_miss : (g : ℕ → ℕ) (b n : ℕ) → g n ≢ b → last_in g b (suc n) ≡ last_in g b n
last_miss g b n d = ap (λ c. cond c (suc n) (last_in g b n)) (ne_eqb (g n) b d)

pub last_le : (g : ℕ → ℕ) (b n : ℕ) → last_in g b n ≤ n
last_le g b zero = omega arith
last_le g b (suc n) = elim (cases_eq (g n) b) [
  | inl e ↦ omega (arith, last_hit g b n e)
  | inr d ↦ omega (arith, last_miss g b n d, last_le g b n)
]

-- it is in the bucket
pub last_is : (g : ℕ → ℕ) (b n p : ℕ) → last_in g b n ≡ suc p → g p ≡ b
last_is g b zero p h = absurd (omega (arith, h))
last_is g b (suc n) p h = elim (cases_eq (g n) b) [
  | inl e ↦ let same : n ≡ p = omega (arith, last_hit g b n e, h) in subst (λ k. g k ≡ b) same e
  | inr d ↦ last_is g b n p (sym (last_miss g b n d) ∙ h)
]

-- and none behind it is
pub none_behind : (g : ℕ → ℕ) (b n j : ℕ) → last_in g b n ≤ j → j < n → g j ≢ b
none_behind g b zero j low high = absurd (omega (arith, high))
none_behind g b (suc n) j low high = elim (cases_eq (g n) b) [
  | inl e ↦ absurd (omega (arith, last_hit g b n e, low, high))
  | inr d ↦ elim (cases_eq j n) [
    | inl same ↦ subst (λ k. g k ≢ b) (sym same) d
    | inr other ↦
        let low : last_in g b n ≤ j = omega (arith, last_miss g b n d, low) in
        let high : j < n = omega (arith, high, other) in
        none_behind g b n j low high
  ]
]

pub last_same : (g h : ℕ → ℕ) (b n : ℕ) → ((i : ℕ) → i < n → g i ≡ h i) → last_in g b n ≡ last_in h b n
last_same g h b zero same = refl
last_same g h b (suc n) same =
    let below : last_in g b n ≡ last_in h b n = last_same g h b n (λ i l. same i (omega (arith, l))) in
    let here : g n ≡ h n = same n (omega arith) in
    elim (cases_eq (g n) b) [
      | inl e ↦ last_hit g b n e ∙ sym (last_hit h b n (sym here ∙ e))
      | inr d ↦ last_miss g b n d ∙ below ∙ sym (last_miss h b n (λ e. d (here ∙ e)))
    ]
