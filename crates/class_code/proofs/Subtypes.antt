-- The row of a class's supertypes says of which classes it is a subtype.
use Rattle.std.proofs.Common.{inl, inr, true, false, ◌≡◌, ℕ, zero, suc, ◌+◌, ◌-◌, ◌<◌, ◌≤◌, Bool, List, [], ◌∷◌, ◌++◌, Some}
use Rattle.std.proofs.Common.{None, length, map, get_or, refl, ap, sym, ◌∙◌, arith}
use Rattle.std.specs.Prelude.{nat_eq, nat_lt, ◌&&◌, ◌||◌, filter, if◌then◌else◌}
use Rattle.std.specs.List.{list_any, range_with_len}
use Rattle.std.proofs.lemmas.Bool.{cases_lt}
use Rattle.std.proofs.lemmas.Bool.Decides.{nat_tests}
use Rattle.std.proofs.lemmas.List.{append-nil, length-map}
use Rattle.std.proofs.lemmas.List.Elements.{All-get_or, filter-append}
use Rattle.std.proofs.lemmas.List.Folds.{list_any-append}
use Rattle.std.proofs.lemmas.Option.{slice_get-get_or}
use Rattle.ap_base.specs.declared.kind.Kind.TheVariants.{I}
use Rattle.plain_model.specs.Classes.{ArrayType, Numbers}
use Rattle.plain_model.specs.Consistent.{IsArrayType}
use Rattle.plain_model.specs.Duties.{IsClass}
use Rattle.plain_model.specs.Facts.{array_at, dimensions_of, innermost_of, is_sub, is_subtype}
use Rattle.class_set.specs.ArrayTypes.{array_type}
use Rattle.class_set.specs.Facts.{facts_of}
use Rattle.class_set.specs.Linked.{Linked, class_count}
use Rattle.class_set.specs.Sets.{IsLinked}
use Rattle.class_set.proofs.Consistency.{set_consistent}
use Rattle.class_set.proofs.ElementTypes.{array_behind, array_below}
use Rattle.class_code.specs.Classes.{supertypes_of}
use Rattle.class_code.proofs.ClassesThere.{classes_counted}
use Rattle.class_code.proofs.Inheriting.{names_counted}

-- ---- numbers up to one that pass a test

last_number : (a n : ℕ) → range_with_len a (suc n) ≡ range_with_len a n ++ (a + n) ∷ []
last_number a zero = let e : a ≡ a + 0 = omega arith in ap (λ k. k ∷ []) e
last_number a (suc n) =
    let e : a + 1 + n ≡ a + suc n = omega arith in
    ap (λ ks. a ∷ ks) (last_number (a + 1) n ∙ ap (λ k. range_with_len (a + 1) n ++ k ∷ []) e)

filter_more : (p : ℕ → Bool) (n : ℕ)
    → filter p (range_with_len 0 (n + 1)) ≡ filter p (range_with_len 0 n) ++ (if p n then n ∷ [] else [])
filter_more p n =
    let e : n + 1 ≡ suc n = omega arith in
    let last : 0 + n ≡ n = omega arith in
    ap (λ k. filter p (range_with_len 0 k)) e ∙ ap (filter p) (last_number 0 n)
    ∙ ap (λ k. filter p (range_with_len 0 n ++ k ∷ [])) last ∙ filter-append p (range_with_len 0 n) (n ∷ [])

pub kept : (p : ℕ → Bool) (n : ℕ) (old new : List ℕ) → old ≡ filter p (range_with_len 0 n) → p n ≡ true → new ≡ old ++ n ∷ []
    → new ≡ filter p (range_with_len 0 (n + 1))
kept p n old new e passes f =
    f ∙ ap (λ ns. ns ++ n ∷ []) e
    ∙ sym (filter_more p n ∙ ap (λ b. filter p (range_with_len 0 n) ++ (if b then n ∷ [] else [])) passes)

pub left_out : (p : ℕ → Bool) (n : ℕ) (old : List ℕ) → old ≡ filter p (range_with_len 0 n) → p n ≡ false
    → old ≡ filter p (range_with_len 0 (n + 1))
left_out p n old e fails =
    e ∙ sym (filter_more p n ∙ ap (λ b. filter p (range_with_len 0 n) ++ (if b then n ∷ [] else [])) fails
    ∙ append-nil (filter p (range_with_len 0 n)))

abbrev is : ℕ → ℕ → Bool
is t n = nat_eq n t

one_number : (b : Bool) (n t : ℕ) → list_any (is t) (if b then n ∷ [] else []) ≡ (nat_eq n t && b)
one_number true n t = refl_or (nat_eq n t)
  where
    refl_or : (x : Bool) → (x || false) ≡ (x && true)
    refl_or true = refl
    refl_or false = refl
one_number false n t = never (nat_eq n t)
  where
    never : (x : Bool) → false ≡ (x && false)
    never true = refl
    never false = refl

passed_more : (p : ℕ → Bool) (n t : ℕ) → ((nat_lt t n && p t) || (nat_eq n t && p n)) ≡ (nat_lt t (suc n) && p t)
passed_more p n t = one (nat_eq n t) refl
  where
    or_self : (a b : Bool) → ((a && b) || b) ≡ b
    or_self true true = refl
    or_self true false = refl
    or_self false b = refl

    or_none : (a : Bool) → (a || false) ≡ a
    or_none true = refl
    or_none false = refl

    one : (b : Bool) → nat_eq n t ≡ b → ((nat_lt t n && p t) || (b && p n)) ≡ (nat_lt t (suc n) && p t)
    one true e =
        let same : n ≡ t = grind (arith, nat_tests) in
        let below : nat_lt t (suc n) ≡ true = grind (arith, nat_tests) in
        ap (λ k. (nat_lt t n && p t) || p k) same ∙ or_self (nat_lt t n) (p t) ∙ ap (λ b. b && p t) (sym below)
    one false e =
        let same : nat_lt t n ≡ nat_lt t (suc n) = grind (arith, nat_tests) in
        or_none (nat_lt t n && p t) ∙ ap (λ b. b && p t) same

pub has_passed : (p : ℕ → Bool) (n t : ℕ) → list_any (is t) (filter p (range_with_len 0 n)) ≡ (nat_lt t n && p t)
has_passed p zero t = (let none : nat_lt t 0 ≡ false = grind (arith, nat_tests) in ap (λ b. b && p t) (sym none))
has_passed p (suc n) t =
    let e : suc n ≡ n + 1 = omega arith in
    ap (λ k. list_any (is t) (filter p (range_with_len 0 k))) e ∙ ap (list_any (is t)) (filter_more p n)
    ∙ list_any-append (is t) (filter p (range_with_len 0 n)) (if p n then n ∷ [] else [])
    ∙ ap (λ b. b || list_any (is t) (if p n then n ∷ [] else [])) (has_passed p n t)
    ∙ ap (λ b. (nat_lt t n && p t) || b) (one_number (p n) n t)
    ∙ passed_more p n t

-- ---- no class is a subtype of an array type

counted : (set : Linked) (n : ℕ) → IsClass (facts_of set) n → length set.files + 28 ≤ n
    → n - (length set.files + 28) < length (map (array_type set.files) set.arrays)
counted set n there past =
    omega (arith, there, past, classes_counted set, names_counted set, length-map set.arrays (array_type set.files))

array_there : (set : Linked) (n : ℕ) → IsLinked set → IsClass (facts_of set) n → length set.files + 28 ≤ n
    → (a : ArrayType) × (array_at (facts_of set) n ≡ Some a) × (0 < a.dimensions)
array_there set n linked there past =
    let none : ArrayType = record { descriptor = []; dimensions = 0; innermost = Numbers I } in
    let arrays = map (array_type set.files) set.arrays in
    let k = n - (length set.files + 28) in
    let within = counted set n there past in (
      get_or arrays k none,
      array_behind set n past ∙ slice_get-get_or arrays k none within,
      (All-get_or (IsArrayType (facts_of set)) arrays k none within (set_consistent set linked).arrays).dimensions,
    )

pub not_below_array : (set : Linked) (n above : ℕ) → IsLinked set → n < length set.files + 28 → IsClass (facts_of set) above
    → length set.files + 28 ≤ above → is_sub (facts_of set) n above ≡ false
not_below_array set n above linked l there past =
    let array = array_there set above linked there past in
    let own : dimensions_of (facts_of set) n ≡ 0 = ap (λ o. elim o [ None ↦ 0 | Some a ↦ a.dimensions ]) (array_below set n l) in
    let other : dimensions_of (facts_of set) above ≡ array.0.dimensions = ap (λ o. elim o [ None ↦ 0 | Some a ↦ a.dimensions ]) array.1 in
    let differ : nat_eq 0 array.0.dimensions ≡ false = grind (arith, nat_tests) in
    let none : nat_lt array.0.dimensions 0 ≡ false = grind (arith, nat_tests) in
    ap (λ d. is_subtype (facts_of set) d (innermost_of (facts_of set) n) (dimensions_of (facts_of set) above) (innermost_of (facts_of set) above)) own
    ∙ ap (λ d. is_subtype (facts_of set) 0 (innermost_of (facts_of set) n) d (innermost_of (facts_of set) above)) other
    ∙ rw (differ, none) refl

-- ---- the row

pub supertypes_told : (set : Linked) (n above : ℕ) → IsLinked set → n < length set.files + 28 → IsClass (facts_of set) above
    → list_any (is above) (supertypes_of set n) ≡ is_sub (facts_of set) n above
supertypes_told set n above linked l there =
    let below : nat_lt n (class_count set) ≡ true = grind (arith, nat_tests) in
    ap (λ b. list_any (is above) (if b then filter (is_sub (facts_of set) n) (range_with_len 0 (class_count set)) else [])) below
    ∙ has_passed (is_sub (facts_of set) n) (class_count set) above
    ∙ elim (cases_lt above (class_count set)) [
      | inl low ↦ (let test : nat_lt above (class_count set) ≡ true = grind (arith, nat_tests) in
          ap (λ b. b && is_sub (facts_of set) n above) test)
      | inr high ↦ (let test : nat_lt above (class_count set) ≡ false = grind (arith, nat_tests) in
          ap (λ b. b && is_sub (facts_of set) n above) test ∙ sym (not_below_array set n above linked l there high))
    ]
