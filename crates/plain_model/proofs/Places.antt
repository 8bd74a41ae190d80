-- Objects numbered by their places in a list: what is found by the new numbers is what was found,
-- renumbered.
use Rattle.std.proofs.Common.{◌≡◌, ℕ, zero, suc, ◌<◌, true, false, List, [], ◌∷◌, ◌++◌, map, length, refl, ap, sym, ◌∙◌, subst}
use Rattle.std.proofs.Common.{arith, nat_eq, ◌||◌, inl, inr, slice_index_or, if◌then◌else◌}
use Rattle.std.specs.Prelude.{All, Contains}
use Rattle.std.specs.List.{IsDistinct}
use Rattle.std.proofs.lemmas.Bool.{eqb-true, eq-eqb, ne_eqb, cases_eq, cases_order, false≢true, true≢false}
use Rattle.std.proofs.lemmas.List.{get_or-map, get_or_append_left, get_or_at, length-append, length-map, same_lists}
use Rattle.std.proofs.lemmas.List.Elements.{All-head, All-tail, All-push, Contains-get_or}
use Rattle.std.proofs.lemmas.Map.Keys.{apart_from_distinct}
use Rattle.graph_model.specs.declared.types.Value.{Value}
use Rattle.graph_model.specs.declared.types.Value.TheVariants.{Int, Long, Null, Obj as Object}
use Rattle.graph_model.specs.Heaps.{has_number}
use Rattle.graph_model.specs.Canon.{with_number, with_new, place_in, renumbered}
use Rattle.graph_model.proofs.Numbers.{has_number-from_Contains}
use Rattle.plain_model.specs.First.{numbers_to}

-- the numbers below n stand at their places
pub numbers-length : (n : ℕ) → length (numbers_to n) ≡ n
numbers-length zero = refl
numbers-length (suc n) = length-append (numbers_to n) (n ∷ [])
    ∙ (let e = numbers-length n in omega (arith, e))

pub numbers-at : (n k d : ℕ) → k < n → slice_index_or (numbers_to n) k d ≡ k
numbers-at zero k d below = absurd (omega (arith, below))
numbers-at (suc n) k d below = elim (cases_order k n) [
  | inl same ↦ get_or_at (numbers_to n) n [] d k (numbers-length n ∙ sym same) ∙ sym same
  | inr (inl less) ↦ get_or_append_left (numbers_to n) (n ∷ []) d k (rw (numbers-length n) less)
      ∙ numbers-at n k d less
  | inr (inr more) ↦ absurd (omega (arith, below, more))
]

module _ (found : List ℕ) where
  -- a found number stands at its place
  pub place_at : (xs : List ℕ) (n d : ℕ) → has_number xs n ≡ true
      → (place_in xs n < length xs) × (slice_index_or xs (place_in xs n) d ≡ n)
  place_at [] n d has = absurd (false≢true has)
  place_at (x ∷ xs) n d has = elim (nat_eq x n) as (λ b. nat_eq x n ≡ b → (b || has_number xs n) ≡ true
      → ((if b then 0 else suc (place_in xs n)) < suc (length xs))
      × (slice_index_or (x ∷ xs) (if b then 0 else suc (place_in xs n)) d ≡ n)) [
        | true ↦ λ same h. (omega arith, eqb-true x n same)
        | false ↦ λ other h. let (within, at) = place_at xs n d h in (omega (arith, within), at)
      ] refl has

  abbrev pub place : ℕ → ℕ
  place = place_in found

  pub place_within : (n : ℕ) → has_number found n ≡ true → place n < length found
  place_within n has = (place_at found n 0 has).0

  places_apart : (m n : ℕ) → has_number found m ≡ true → has_number found n ≡ true
      → nat_eq (place m) (place n) ≡ nat_eq m n
  places_apart m n has_m has_n = elim (cases_eq m n) [
    | inl same ↦ eq-eqb (place m) (place n) (ap place same) ∙ sym (eq-eqb m n same)
    | inr differ ↦
        ne_eqb (place m) (place n) (λ same. differ (sym (place_at found m 0 has_m).1
        ∙ ap (λ k. slice_index_or found k 0) same ∙ (place_at found n 0 has_n).1))
        ∙ sym (ne_eqb m n differ)
  ]

  abbrev pub IsIn : ℕ → Type 0
  IsIn n = has_number found n ≡ true

  has-places : (done : List ℕ) (n : ℕ) → All IsIn done → IsIn n → has_number (map place done) (place n)
      ≡ has_number done n
  has-places [] n all is = refl
  has-places (d ∷ ds) n all is =
      rw (places_apart d n (All-head IsIn d ds all) is, has-places ds n (All-tail IsIn d ds all) is) refl

  map-push : (xs : List ℕ) (n : ℕ) → map place (xs ++ n ∷ []) ≡ map place xs ++ place n ∷ []
  map-push [] n = refl
  map-push (x ∷ xs) n = ap (λ ys. place x ∷ ys) (map-push xs n)

  number-places : (done : List ℕ) (n : ℕ) → All IsIn done → IsIn n
      → with_number (map place done) (place n) ≡ map place (with_number done n)
  number-places done n all is = rw (has-places done n all is) (elim (has_number done n) as (λ b.
      (if b then map place done else map place done ++ place n ∷ [])
      ≡ map place (if b then done else done ++ n ∷ []))
      [ true ↦ refl | false ↦ sym (map-push done n) ])

  -- each object of the values is found
  abbrev pub AreIn : List Value → Type 0
  AreIn values = (m : ℕ) → Contains values (Object m) → IsIn m

  tail_in : (v : Value) (values : List Value) → AreIn (v ∷ values) → AreIn values
  tail_in v values all m (k, within, at) = all m (suc k, omega (arith, within), at)

  with_in : (done : List ℕ) (n : ℕ) → All IsIn done → IsIn n → All IsIn (with_number done n)
  with_in done n all is = elim (has_number done n) as (λ b. All IsIn (if b then done else done ++ n ∷ []))
      [ true ↦ all | false ↦ All-push IsIn done n all is ]

  pub new-places : (done : List ℕ) (values : List Value) → All IsIn done → AreIn values
      → with_new (map place done) (map (renumbered found) values) ≡ map place (with_new done values)
  new-places done [] all are = refl
  new-places done (Object n ∷ values) all are =
      let is : IsIn n = are n (0, omega arith, refl) in
      ap (λ xs. with_new xs (map (renumbered found) values)) (number-places done n all is)
      ∙ new-places (with_number done n) values (with_in done n all is) (tail_in (Object n) values are)
  new-places done (Int i ∷ values) all are = new-places done values all (tail_in (Int i) values are)
  new-places done (Long i ∷ values) all are = new-places done values all (tail_in (Long i) values are)
  new-places done (Null ∷ values) all are = new-places done values all (tail_in Null values are)

  -- the places of the found numbers are the numbers below
  pub own_place : IsDistinct nat_eq found → (k d : ℕ) → k < length found
      → place (slice_index_or found k d) ≡ k
  own_place once k d within =
      let n = slice_index_or found k d in
      let has : has_number found n ≡ true = has_number-from_Contains found n
      (Contains-get_or found k d within) in
      let (there, at) = place_at found n d has in
      elim (cases_order (place n) k) [
        | inl same ↦ same
        | inr (inl less) ↦ absurd (true≢false (sym (eq-eqb (slice_index_or found (place n) d) n at)
            ∙ apart_from_distinct nat_eq found (place n) k d once less within))
        | inr (inr more) ↦ absurd (true≢false (sym (eq-eqb n (slice_index_or found (place n) d) (sym at))
            ∙ apart_from_distinct nat_eq found k (place n) d once more there))
      ]

  pub all_places : IsDistinct nat_eq found → map place found ≡ numbers_to (length found)
  all_places once = same_lists (map place found) (numbers_to (length found))
      (length-map found place ∙ sym (numbers-length (length found)))
      (λ k d within.
      let below : k < length found = subst (λ n. k < n) (length-map found place) within in
      get_or-map place found k d d below ∙ own_place once k d below
      ∙ sym (numbers-at (length found) k d below))
