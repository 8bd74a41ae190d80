-- A list of options that is filled place by place.
use Rattle.std.proofs.Common.{◌≡◌, ℕ, zero, suc, ◌+◌, ◌<◌, ◌≤◌, List, [], ◌∷◌, length, Option, Some, None, refl, ap}
use Rattle.std.proofs.Common.{arith, inl, inr, replicate, sym, ◌∙◌}
use Rattle.std.proofs.lemmas.Bool.{cases_lt}
use Rattle.std.proofs.lemmas.List.{get_or-set_other, get_or-set_same, length-set}
use Rattle.std.specs.Prelude.{IfSome, slice_get, slice_set, slice_index_or}

some-one : {X : Type 0} (x y : X) → ◌≡◌ {A = Option X} (Some x) (Some y) → x ≡ y
some-one x y e = cc

index-of-get : {X : Type 0} (xs : List (Option X)) (t : ℕ) (x : Option X) → slice_get xs t ≡ Some x
    → slice_index_or xs t None ≡ x
index-of-get {X} [] t x is = absurd (let no : ◌≡◌ {A = Option (Option X)} None (Some x) = is in cc)
index-of-get {X} (y ∷ xs) zero x is = some-one y x is
index-of-get (y ∷ xs) (suc t) x is = index-of-get xs t x is

pub next-is : (made : Option ℕ) (t n : ℕ) → made ≡ Some t → IfSome made (λ thread. thread ≡ n) → t ≡ n
next-is None t n e is = absurd (let no : ◌≡◌ {A = Option ℕ} None (Some t) = e in cc)
next-is (Some u) t n e is = sym (some-one u t e) ∙ is

-- lists of so many options are the same where each place is
same-options : {X : Type 0} (xs ys : List (Option X)) → length xs ≡ length ys
    → ((k : ℕ) → k < length xs → slice_index_or xs k None ≡ slice_index_or ys k None) → xs ≡ ys
same-options [] [] long same = refl
same-options [] (y ∷ ys) long same = absurd (omega (arith, long))
same-options (x ∷ xs) [] long same = absurd (omega (arith, long))
same-options {X} (x ∷ xs) (y ∷ ys) long same =
    let head : x ≡ y = same 0 (omega arith) in
    let tail = same-options xs ys (omega (arith, long)) (λ k below. same (suc k) (omega (arith, below))) in
    λ i. head i ∷ tail i

abbrev nones : {X : Type 0} → ℕ → List (Option X)
nones n = replicate n None

none-at : {X : Type 0} (n t : ℕ) → slice_index_or (nones {X = X} n) t None ≡ None
none-at zero t = refl
none-at (suc n) zero = refl
none-at (suc n) (suc t) = none-at n t

-- One list of options is filled after the other, place by place: before place n it is the other, from there on nothing.
pub record IsFilled {X : Type 0} (xs ys : List (Option X)) (n : ℕ) : Type 0 where
  pub long : length xs ≡ 64
  pub done : (k : ℕ) → k < n → slice_index_or xs k None ≡ slice_index_or ys k None
  pub none : (k : ℕ) → n ≤ k → slice_index_or xs k None ≡ None

pub fills-none : {X : Type 0} (ys : List (Option X)) → IsFilled (replicate 64 None) ys 0
fills-none ys = record {
  long = refl;
  done = λ k below. absurd (omega (arith, below));
  none = λ k past. none-at 64 k;
}

pub fills-one : {X : Type 0} (xs ys : List (Option X)) (n t : ℕ) (at : Option X) → t ≡ n → n < 64
    → slice_get ys t ≡ Some at → IsFilled xs ys n → IsFilled (slice_set xs t at) ys (n + 1)
fills-one {X} xs ys n t at is room there f = record {
  long = length-set xs t at ∙ f.long;
  done = done-at;
  none = λ k past. get_or-set_other xs t k at None (λ same. absurd (omega (arith, past, same, is)))
      ∙ f.none k (omega (arith, past));
}
  where
    done-at : (k : ℕ) → k < n + 1 → slice_index_or (slice_set xs t at) k None ≡ slice_index_or ys k None
    done-at k below = elim (cases_lt k n) [
      | inl less ↦ get_or-set_other xs t k at None (λ same. absurd (omega (arith, less, same, is))) ∙ f.done k less
      | inr past ↦
          (let same : k ≡ t = omega (arith, below, past, is) in
          ap (λ (j : ℕ). slice_index_or (slice_set xs t at) j None) same
          ∙ get_or-set_same xs t at None (let long = f.long in omega (arith, long, room, is))
          ∙ sym (index-of-get ys t at there) ∙ ap (λ (j : ℕ). slice_index_or ys j None) (sym same))
    ]

pub filled-is : {X : Type 0} (xs ys : List (Option X)) (n : ℕ) → length ys ≡ 64 → 64 ≤ n → IsFilled xs ys n → xs ≡ ys
filled-is xs ys n long past f = same-options xs ys (f.long ∙ sym long)
    (λ k below. let many = f.long in f.done k (omega (arith, many, below, past)))
