-- Found objects and their places.
use Rattle.std.proofs.Common.{◌≡◌, ℕ, suc, ◌<◌, ◌≤◌, ◌^◌, true, false, List, [], ◌∷◌, ◌++◌, Option, Some, None, refl, ap, sym}
use Rattle.std.proofs.Common.{◌∙◌, length, slice_index_or, slice_set, replicate, if◌then◌else◌, nat_eq, ◌||◌, eq-eqb, inl, inr}
use Rattle.std.specs.Prelude.{All, is_some}
use Rattle.std.specs.List.{IsDistinct}
use Rattle.std.proofs.lemmas.Bool.{cases_eq, ne_eqb, or_parts, false≢true}
use Rattle.std.proofs.lemmas.Cmp.{nat_eq_equiv}
use Rattle.std.proofs.Math.Bool.{or-false}
use Rattle.std.proofs.lemmas.List.{length-set, length-replicate, get_or-replicate, get_or-set_same, get_or-set_other}
use Rattle.std.proofs.lemmas.List.{get_or_read}
use Rattle.std.proofs.lemmas.List.Elements.{All-nil, All-push, All-contains}
use Rattle.std.proofs.lemmas.Map.Keys.{IsDistinct-push}
use Rattle.std.proofs.lemmas.Map.Steps.{length-le_from_distinct_below}
use Rattle.graph_model.specs.Heaps.{has_number}
use Rattle.graph_model.specs.Canon.{place_in}
use Rattle.graph_model.specs.Found.{place_of, IsPlaced}
use Rattle.graph_model.proofs.Numbers.{has_number-push, has_number-any, Contains-from_has_number}

pub IsPlaced-none : (n : ℕ) → n < 2 ^ 32 → IsPlaced [] (replicate n None)
unfolding IsDistinct
IsPlaced-none n h =
    let none : Option ℕ = None in
    let size = length-replicate n none in
    record {
      few = rw size h;
      once = tt;
      below = All-nil (λ m. m < length (replicate n none));
      placed = λ m l. get_or-replicate n m none none (rw size at l);
    }

-- no more objects are found than there are
pub few_found : (found : List ℕ) (places : List (Option ℕ)) → IsPlaced found places → length found ≤ length places
few_found found places p =
    length-le_from_distinct_below found (length places) p.once
    (λ q h. All-contains (λ n. n < length places) found q p.below
    (Contains-from_has_number found q (has_number-any found q ∙ h)))

place_in-push_new : (found : List ℕ) (n : ℕ) → has_number found n ≡ false → place_in (found ++ n ∷ []) n ≡ length found
place_in-push_new [] n h = rw (eq-eqb n n refl) refl
place_in-push_new (m ∷ ms) n h =
    let p = or_parts (nat_eq m n) (has_number ms n) h in
    rw (p.0) (ap (λ k. suc k) (place_in-push_new ms n p.1))

place_in-push_old : (found : List ℕ) (n m : ℕ) → has_number found m ≡ true → place_in (found ++ n ∷ []) m ≡ place_in found m
place_in-push_old [] n m h = absurd (false≢true h)
place_in-push_old (k ∷ ks) n m h =
    elim (nat_eq k m) as (λ b. (b || has_number ks m) ≡ true
    → (if b then 0 else suc (place_in (ks ++ n ∷ []) m)) ≡ (if b then 0 else suc (place_in ks m)))
    [ true ↦ λ e. refl | false ↦ λ e. ap (λ j. suc j) (place_in-push_old ks n m e) ] h

place_of-push_new : (found : List ℕ) (n : ℕ) → has_number found n ≡ false → place_of (found ++ n ∷ []) n ≡ Some (length found)
place_of-push_new found n h =
    rw (has_number-push found n n, h, eq-eqb n n refl) (ap (λ k. Some k) (place_in-push_new found n h))

place_of-push_old : (found : List ℕ) (n m : ℕ) → (m ≡ n → ⊥) → place_of (found ++ n ∷ []) m ≡ place_of found m
place_of-push_old found n m d =
    let e : nat_eq n m ≡ false = nat_eq_equiv.symm n m ∙ ne_eqb m n d in
    rw (has_number-push found n m, e, or-false (has_number found m))
    (elim (has_number found m) as (λ b. has_number found m ≡ b
    → (if b then Some (place_in (found ++ n ∷ []) m) else None) ≡ (if b then Some (place_in found m) else None))
    [ true ↦ λ h. ap (λ k. Some k) (place_in-push_old found n m h) | false ↦ λ h. refl ] refl)

-- an object has a place exactly if it is found
pub is_some-place_of : (found : List ℕ) (n : ℕ) → is_some (place_of found n) ≡ has_number found n
is_some-place_of found n =
    elim (has_number found n) as (λ b. is_some (if b then Some (place_in found n) else None) ≡ b) [ true ↦ refl | false ↦ refl ]

-- what is read at an object is its place
pub read_place : (found : List ℕ) (places : List (Option ℕ)) (n : ℕ) (o : Option ℕ) → IsPlaced found places → n < length places
    → o ≡ slice_index_or places n o → o ≡ place_of found n
read_place found places n o p l e = get_or_read places n o l e None ∙ p.placed n l

pub IsPlaced-push : (found : List ℕ) (places : List (Option ℕ)) (n : ℕ) → IsPlaced found places → n < length places
    → has_number found n ≡ false → IsPlaced (found ++ n ∷ []) (slice_set places n (Some (length found)))
IsPlaced-push found places n p l h =
    let v : Option ℕ = Some (length found) in
    let none : Option ℕ = None in
    let size : length (slice_set places n v) ≡ length places = length-set places n v in
    let below : All (λ k. k < length places) (found ++ n ∷ []) = All-push (λ k. k < length places) found n p.below l in
    record {
      few = rw size p.few;
      once = IsDistinct-push nat_eq_equiv found n p.once (sym (has_number-any found n) ∙ h);
      below = rw size below;
      placed = λ m k. let there : m < length places = rw size at k in elim (cases_eq m n) [
        | inl e ↦ rw e (get_or-set_same places n v none l ∙ sym (place_of-push_new found n h))
        | inr d ↦ get_or-set_other places n m v none d ∙ p.placed m there ∙ sym (place_of-push_old found n m d)
      ];
    }

-- the place that a found object has
pub found_place : (found : List ℕ) (places : List (Option ℕ)) (n : ℕ) → IsPlaced found places → has_number found n ≡ true
    → (n < length places) × (slice_index_or places n None ≡ Some (place_in found n))
found_place found places n p h =
    let l = All-contains (λ k. k < length places) found n p.below (Contains-from_has_number found n h) in
    (l, p.placed n l ∙ rw h refl)
