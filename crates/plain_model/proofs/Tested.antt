-- What a consistent set keeps, as tests that compute.
use Rattle.std.proofs.Common.{◌≡◌, ℕ, zero, suc, ◌<◌, Bool, true, false, not, ◌&&◌, List, [], ◌∷◌, refl, sym, ◌∙◌, ap, subst}
use Rattle.std.proofs.Common.{arith, inl, inr}
use Rattle.std.specs.Prelude.{◌≢◌, All, AllPairs}
use Rattle.std.specs.Str.{bytes_eq}
use Rattle.std.proofs.lemmas.Bool.{false≢true, cases_lt}
use Rattle.std.proofs.lemmas.List.Elements.{All-nil, All-cons}
use Rattle.std.proofs.lemmas.List.Kept.{AllPairs-cons}
use Rattle.plain_model.specs.Classes.{ClassFacts}
use Rattle.plain_model.specs.Facts.{SetFacts, class_at, is_subclass}
use Rattle.plain_model.specs.Consistent.{supers_of}
use Rattle.plain_model.proofs.Consistent.{own_bytes}

left_of : (a b : Bool) → (a && b) ≡ true → a ≡ true
left_of true b both = refl
left_of false b both = both

right_of : (a b : Bool) → (a && b) ≡ true → b ≡ true
right_of true b both = both
right_of false b both = absurd (false≢true both)

false_of : (a : Bool) → not a ≡ true → a ≡ false
false_of true is = absurd (false≢true is)
false_of false is = refl

abbrev pub is_new : List ℕ → List ClassFacts → Bool
is_new name [] = true
is_new name (c ∷ cs) = not (bytes_eq name c.shape.name) && is_new name cs

abbrev pub have_own_names : List ClassFacts → Bool
have_own_names [] = true
have_own_names (c ∷ cs) = is_new c.shape.name cs && have_own_names cs

pub new_name : (name : List ℕ) (cs : List ClassFacts) → is_new name cs ≡ true
    → All (λ (c : ClassFacts). name ≢ c.shape.name) cs
new_name name [] is = All-nil (λ (c : ClassFacts). name ≢ c.shape.name)
new_name name (c ∷ cs) is =
    let other = false_of (bytes_eq name c.shape.name)
    (left_of (not (bytes_eq name c.shape.name)) (is_new name cs) is) in
    All-cons (λ (d : ClassFacts). name ≢ d.shape.name) c cs
    (λ same. false≢true (sym other ∙ ap (bytes_eq name) (sym same) ∙ own_bytes name))
    (new_name name cs (right_of (not (bytes_eq name c.shape.name)) (is_new name cs) is))

pub own_names : (cs : List ClassFacts) → have_own_names cs ≡ true
    → AllPairs (λ (c d : ClassFacts). c.shape.name ≢ d.shape.name) cs
own_names [] are = λ i j d before within. absurd (let no : j < 0 = within in omega (arith, no))
own_names (c ∷ cs) are =
    AllPairs-cons (λ (x y : ClassFacts). x.shape.name ≢ y.shape.name) c cs
    (new_name c.shape.name cs (left_of (is_new c.shape.name cs) (have_own_names cs) are))
    (own_names cs (right_of (is_new c.shape.name cs) (have_own_names cs) are))

module _ (set : SetFacts) where
  abbrev pub are_not_under : ℕ → List ℕ → Bool
  are_not_under n [] = true
  are_not_under n (super ∷ supers) = not (is_subclass set super n) && are_not_under n supers

  abbrev pub have_no_circle : ℕ → Bool
  have_no_circle zero = true
  have_no_circle (suc n) = are_not_under n (supers_of (class_at set n)) && have_no_circle n

  abbrev IsNotUnder : ℕ → ℕ → Type 0
  IsNotUnder n super = is_subclass set super n ≡ false

  not_under : (n : ℕ) (supers : List ℕ) → are_not_under n supers ≡ true → All (IsNotUnder n) supers
  not_under n [] are = All-nil (IsNotUnder n)
  not_under n (super ∷ supers) are =
      All-cons (IsNotUnder n) super supers
      (false_of (is_subclass set super n) (left_of (not (is_subclass set super n))
      (are_not_under n supers) are))
      (not_under n supers (right_of (not (is_subclass set super n)) (are_not_under n supers) are))

  pub no_circle : (count : ℕ) → have_no_circle count ≡ true → (n : ℕ) → n < count
      → All (IsNotUnder n) (supers_of (class_at set n))
  no_circle zero have n below = absurd (omega (arith, below))
  no_circle (suc count) have n below = elim (cases_lt n count) [
    | inl less ↦ no_circle count (right_of (are_not_under count (supers_of (class_at set count)))
        (have_no_circle count) have) n less
    | inr last ↦
        let same : count ≡ n = omega (arith, below, last) in
        subst (λ k. All (IsNotUnder k) (supers_of (class_at set k))) same
        (not_under count (supers_of (class_at set count))
        (left_of (are_not_under count (supers_of (class_at set count))) (have_no_circle count) have))
  ]
