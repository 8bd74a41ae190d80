-- Of so many numbers from one on, those that pass a test, in their order.
use Rattle.std.proofs.Common.{◌≡◌, ◌≢◌, inl, inr, ℕ, zero, suc, ◌+◌, ◌<◌, ◌≤◌, Bool, true, false, cond, List, [], ◌∷◌, ◌++◌}
use Rattle.std.proofs.Common.{filter, refl, sym, ◌∙◌, ap, subst, arith}
use Rattle.std.specs.Prelude.{All, AllPairs, Contains, sum_by}
use Rattle.std.specs.List.{range_with_len}
use Rattle.std.proofs.lemmas.Bool.{false≢true, cases_eq}
use Rattle.std.proofs.lemmas.List.FromFn.{length-range_with_len, get_or-range_with_len}
use Rattle.std.proofs.lemmas.List.Elements.{All-nil, All-cons, All-weaker}
use Rattle.std.proofs.lemmas.List.Kept.{AllPairs-filter}
use Rattle.std.proofs.lemmas.List.Quantifiers.{all_pairs_push}
use Rattle.std.proofs.lemmas.List.Sums.{sum_by-cons}

abbrev pub passing : (ℕ → Bool) → ℕ → ℕ → List ℕ
passing p a k = filter p (range_with_len a k)

-- ---- which they are

-- the number is one of so many from a on, and passes
pub record Passes (p : ℕ → Bool) (a k n : ℕ) : Type 0 where
  pub from : a ≤ n
  pub below : n < a + k
  pub passes : p n ≡ true

one_more : (p : ℕ → Bool) (a k n : ℕ) → Passes p (a + 1) k n → Passes p a (suc k) n
one_more p a k n is = record {
  from = (let x = is.from in omega (arith, x));
  below = (let x = is.below in omega (arith, x));
  passes = is.passes;
}

pub passing-pass : (p : ℕ → Bool) (a k : ℕ) → All (Passes p a k) (passing p a k)
passing-pass p a zero = All-nil (Passes p a zero)
passing-pass p a (suc k) =
    let rest = All-weaker (Passes p (a + 1) k) (Passes p a (suc k)) (one_more p a k) (passing p (a + 1) k)
    (passing-pass p (a + 1) k) in
    elim (p a) as (λ b. p a ≡ b
    → All (Passes p a (suc k)) (cond b (a ∷ passing p (a + 1) k) (passing p (a + 1) k))) [
      | true ↦ λ e. All-cons (Passes p a (suc k)) a (passing p (a + 1) k)
          (record { from = omega arith; below = omega arith; passes = e }) rest
      | false ↦ λ e. rest
    ] refl

pub passing-has : (p : ℕ → Bool) (a k n : ℕ) → Passes p a k n → Contains (passing p a k) n
passing-has p a zero n is = absurd (let x = is.from in let y = is.below in omega (arith, x, y))
passing-has p a (suc k) n is = elim (cases_eq n a) [
  | inl same ↦ (let here : p a ≡ true = ap p (sym same) ∙ is.passes in
      subst (λ b. Contains (cond b (a ∷ passing p (a + 1) k) (passing p (a + 1) k)) n) (sym here)
      (0, omega arith, sym same))
  | inr other ↦ (
      let there = passing-has p (a + 1) k n (record {
        from = (let x = is.from in omega (arith, x, other));
        below = (let x = is.below in omega (arith, x));
        passes = is.passes;
      }) in
      elim (p a) as (λ b. Contains (cond b (a ∷ passing p (a + 1) k) (passing p (a + 1) k)) n) [
        | true ↦ (suc there.0, (let x = there.1 in omega (arith, x)), there.2)
        | false ↦ there
      ])
]

range-once : (a k : ℕ) → AllPairs (λ m n. m ≢ n) (range_with_len a k)
range-once a k i j d before within same =
    let long = length-range_with_len a k in
    let x = get_or-range_with_len a k i d (omega (arith, before, within, long)) in
    let y = get_or-range_with_len a k j d (omega (arith, within, long)) in
    let e : a + i ≡ a + j = sym x ∙ same ∙ y in
    omega (arith, e, before)

-- each of them once, and one that doesn't pass behind them
pub passing-once : (p : ℕ → Bool) (a k n : ℕ) → p n ≡ false
    → AllPairs (λ i j. i ≢ j) (passing p a k ++ n ∷ [])
passing-once p a k n fails = all_pairs_push (λ i j. i ≢ j) (passing p a k) n
    (AllPairs-filter (λ i j. i ≢ j) p (range_with_len a k) (range-once a k))
    (λ i d within same. (let is = passing-pass p a k i d within in
    false≢true (sym fails ∙ ap p (sym same) ∙ is.passes)))

-- ---- sums over them

step : (p : ℕ → Bool) (f : ℕ → ℕ) (a k : ℕ)
    → sum_by f (passing p a (suc k)) ≡ cond (p a) (f a) 0 + sum_by f (passing p (a + 1) k)
step p f a k = elim (p a) as (λ b.
    sum_by f (cond b (a ∷ passing p (a + 1) k) (passing p (a + 1) k))
    ≡ cond b (f a) 0 + sum_by f (passing p (a + 1) k)) [
      | true ↦ sum_by-cons f a (passing p (a + 1) k)
      | false ↦ omega arith
    ]

-- where the same ones pass and count the same
pub sum-same : (p p' : ℕ → Bool) (f f' : ℕ → ℕ) (a k : ℕ)
    → ((n : ℕ) → a ≤ n → n < a + k → (p' n ≡ p n) × (f' n ≡ f n))
    → sum_by f' (passing p' a k) ≡ sum_by f (passing p a k)
sum-same p p' f f' a zero same = refl
sum-same p p' f f' a (suc k) same =
    let rest = sum-same p p' f f' (a + 1) k (λ n from below. same n (omega (arith, from))
    (omega (arith, below))) in
    let here = same a (omega arith) (omega arith) in
    let head : cond (p' a) (f' a) 0 ≡ cond (p a) (f a) 0
    = ap (λ b. cond b (f' a) 0) here.0 ∙ ap (λ x. cond (p a) x 0) here.1 in
    omega (arith, rest, head, step p f a k, step p' f' a k)

-- where one more passes
pub sum-more : (p p' : ℕ → Bool) (f f' : ℕ → ℕ) (a k m : ℕ) → a ≤ m → m < a + k → p m ≡ false → p' m ≡ true
    → ((n : ℕ) → a ≤ n → n < a + k → n ≢ m → (p' n ≡ p n) × (f' n ≡ f n))
    → sum_by f' (passing p' a k) ≡ sum_by f (passing p a k) + f' m
sum-more p p' f f' a zero m from below fails passed same = absurd (omega (arith, from, below))
sum-more p p' f f' a (suc k) m from below fails passed same = elim (cases_eq m a) [
  | inl here ↦ (
      let rest = sum-same p p' f f' (a + 1) k (λ n after under. same n (omega (arith, after))
      (omega (arith, under)) (λ e. omega (arith, e, here, after))) in
      let none : cond (p a) (f a) 0 ≡ 0 = ap (λ b. cond b (f a) 0) (ap p (sym here) ∙ fails) in
      let one : cond (p' a) (f' a) 0 ≡ f' m = ap (λ b. cond b (f' a) 0) (ap p' (sym here) ∙ passed)
      ∙ ap f' (sym here) in
      omega (arith, rest, none, one, step p f a k, step p' f' a k))
  | inr other ↦ (
      let rest = sum-more p p' f f' (a + 1) k m (omega (arith, from, other)) (omega (arith, below)) fails
      passed (λ n after under ne. same n (omega (arith, after)) (omega (arith, under)) ne) in
      let first = same a (omega arith) (omega arith) (λ e. other (sym e)) in
      let head : cond (p' a) (f' a) 0 ≡ cond (p a) (f a) 0
      = ap (λ b. cond b (f' a) 0) first.0 ∙ ap (λ x. cond (p a) x 0) first.1 in
      omega (arith, rest, head, step p f a k, step p' f' a k))
]

-- where the next number doesn't pass
pub sum-next : (p : ℕ → Bool) (f : ℕ → ℕ) (a k : ℕ) → p (a + k) ≡ false
    → sum_by f (passing p a (suc k)) ≡ sum_by f (passing p a k)
sum-next p f a zero fails =
    let at : a ≡ a + 0 = omega arith in
    let none : cond (p a) (f a) 0 ≡ 0 = ap (λ b. cond b (f a) 0) (ap p at ∙ fails) in
    omega (arith, none, step p f a zero)
sum-next p f a (suc k) fails =
    let at : a + 1 + k ≡ a + suc k = omega arith in
    let rest = sum-next p f (a + 1) k (ap p at ∙ fails) in
    omega (arith, rest, step p f a (suc k), step p f a k)

-- where none passes
pub sum-none : (p : ℕ → Bool) (f : ℕ → ℕ) (a k : ℕ) → ((n : ℕ) → a ≤ n → n < a + k → p n ≡ false)
    → sum_by f (passing p a k) ≡ 0
sum-none p f a zero none = refl
sum-none p f a (suc k) none =
    let rest = sum-none p f (a + 1) k (λ n from below. none n (omega (arith, from)) (omega (arith, below))) in
    let here : cond (p a) (f a) 0 ≡ 0 = ap (λ b. cond b (f a) 0) (none a (omega arith) (omega arith)) in
    omega (arith, rest, here, step p f a k)
