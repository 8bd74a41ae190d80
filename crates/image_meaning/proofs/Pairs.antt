-- Lines and the objects that lie there, pair by pair.
use Rattle.std.proofs.Common.{◌≡◌, ℕ, zero, suc, ◌<◌, true, false, List, [], ◌∷◌, ◌++◌, refl, ap, subst, arith, length, map}
use Rattle.std.proofs.Common.{inl, inr, if◌then◌else◌, nat_eq, slice_index_or, eq-eqb}
use Rattle.std.proofs.lemmas.Bool.{cases_eq, ne_eqb}
use Rattle.graph_model.specs.declared.types.Value.{Value}
use Rattle.graph_model.specs.declared.types.Value.TheVariants.{Int, Long, Null, Obj as Object}
use Rattle.graph_model.specs.Heaps.{has_number}
use Rattle.graph_model.specs.Canon.{with_number, with_new, place_in, renumbered}
use Rattle.image_meaning.specs.Corresponds.{LiesAt}

module _ (R : LiesAt) where
  -- the n-th line is where the n-th object lies
  pub data Pairs : List ℕ → List ℕ → Type 0 where
    none_left : Pairs [] []
    pair : {a n : ℕ} {lines numbers : List ℕ} → R a n → Pairs lines numbers → Pairs (a ∷ lines) (n ∷ numbers)

  -- the same values, where objects are called by lines and by numbers
  pub data Alike : List Value → List Value → Type 0 where
    nothing : Alike [] []
    same_int : {i : _} {vs ws : List Value} → Alike vs ws → Alike (Int i ∷ vs) (Int i ∷ ws)
    same_long : {i : _} {vs ws : List Value} → Alike vs ws → Alike (Long i ∷ vs) (Long i ∷ ws)
    both_null : {vs ws : List Value} → Alike vs ws → Alike (Null ∷ vs) (Null ∷ ws)
    one_object : {a n : ℕ} {vs ws : List Value} → R a n → Alike vs ws → Alike (Object a ∷ vs) (Object n ∷ ws)

module _ (R : LiesAt) (left : (a m n : ℕ) → R a m → R a n → m ≡ n) (right : (a b n : ℕ) → R a n → R b n → a ≡ b) where
  same_test : (a m b n : ℕ) → R a m → R b n → nat_eq b a ≡ nat_eq n m
  same_test a m b n x y = elim (cases_eq b a) [
    | inl e ↦ (let f : n ≡ m = left a n m (subst (λ k. R k n) e y) x in rw (eq-eqb b a e, eq-eqb n m f) refl)
    | inr d ↦ (let f : n ≡ m → ⊥ = λ g. d (right b a m (subst (R b) g y) x) in rw (ne_eqb b a d, ne_eqb n m f) refl)
  ]

  pub pairs-has : (a m : ℕ) {lines numbers : List ℕ} → R a m → Pairs R lines numbers → has_number lines a ≡ has_number numbers m
  pairs-has a m x none_left = refl
  pairs-has a m x (pair {a = b} {n = n} y p) = rw (same_test a m b n x y, pairs-has a m x p) refl

  pub pairs-place : (a m : ℕ) {lines numbers : List ℕ} → R a m → Pairs R lines numbers → place_in lines a ≡ place_in numbers m
  pairs-place a m x none_left = refl
  pairs-place a m x (pair {a = b} {n = n} y p) = rw (same_test a m b n x y, pairs-place a m x p) refl

  pub pairs-push : {a m : ℕ} {lines numbers : List ℕ} → Pairs R lines numbers → R a m → Pairs R (lines ++ a ∷ []) (numbers ++ m ∷ [])
  pairs-push none_left x = pair x none_left
  pairs-push (pair y p) x = pair y (pairs-push p x)

  pairs-with_number : (a m : ℕ) {lines numbers : List ℕ} → R a m → Pairs R lines numbers → Pairs R (with_number lines a) (with_number numbers m)
  pairs-with_number a m {lines = lines} {numbers = numbers} x p =
      rw (pairs-has a m x p) (elim (has_number numbers m) as (λ b. Pairs R (if b then lines else lines ++ a ∷ []) (if b then numbers else numbers ++ m ∷ []))
      [ true ↦ p | false ↦ pairs-push p x ])

  pub pairs-with_new : {vs ws : List Value} {lines numbers : List ℕ} → Alike R vs ws → Pairs R lines numbers → Pairs R (with_new lines vs) (with_new numbers ws)
  pairs-with_new nothing p = p
  pairs-with_new (same_int like) p = pairs-with_new like p
  pairs-with_new (same_long like) p = pairs-with_new like p
  pairs-with_new (both_null like) p = pairs-with_new like p
  pairs-with_new (one_object {a = a} {n = n} x like) p = pairs-with_new like (pairs-with_number a n x p)

  pub pairs-at : {lines numbers : List ℕ} (k d e : ℕ) → Pairs R lines numbers → k < length lines → R (slice_index_or lines k d) (slice_index_or numbers k e)
  pairs-at k d e none_left h = absurd (omega (arith, h))
  pairs-at zero d e (pair y p) h = y
  pairs-at (suc k) d e (pair y p) h = pairs-at k d e p (omega (arith, h))

  pub pairs-length : {lines numbers : List ℕ} → Pairs R lines numbers → length lines ≡ length numbers
  pairs-length none_left = refl
  pairs-length (pair y p) = ap suc (pairs-length p)

  pub pairs-object : (a : ℕ) {lines numbers : List ℕ} → Pairs R lines numbers → has_number lines a ≡ true → (n : ℕ) × R a n
  pairs-object a none_left h = absurd (let e : false ≡ true = h in cc)
  pairs-object a (pair {a = b} {n = n} {lines = lines} y p) h = elim (cases_eq b a) [
    | inl e ↦ (n, subst (λ k. R k n) e y)
    | inr d ↦ (let f = ne_eqb b a d in pairs-object a p (rw f at h))
  ]

  pub pairs-line : (n : ℕ) {lines numbers : List ℕ} → Pairs R lines numbers → has_number numbers n ≡ true → (a : ℕ) × R a n
  pairs-line n none_left h = absurd (let e : false ≡ true = h in cc)
  pairs-line n (pair {a = a} {n = m} {lines = lines} y p) h = elim (cases_eq m n) [
    | inl e ↦ (a, subst (R a) e y)
    | inr d ↦ (let f = ne_eqb m n d in pairs-line n p (rw f at h))
  ]

  pub alike-renumbered : {vs ws : List Value} {lines numbers : List ℕ} → Alike R vs ws → Pairs R lines numbers → map (renumbered lines) vs ≡ map (renumbered numbers) ws
  alike-renumbered nothing p = refl
  alike-renumbered (same_int {i = i} like) p = ap (λ vs. Int i ∷ vs) (alike-renumbered like p)
  alike-renumbered (same_long {i = i} like) p = ap (λ vs. Long i ∷ vs) (alike-renumbered like p)
  alike-renumbered (both_null like) p = ap (λ vs. Null ∷ vs) (alike-renumbered like p)
  alike-renumbered (one_object {a = a} {n = n} x like) p = rw (pairs-place a n x p, alike-renumbered like p) refl
