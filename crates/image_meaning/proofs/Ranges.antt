-- Lists that are made number by number.
use Rattle.std.proofs.Common.{◌≡◌, ℕ, zero, suc, ◌+◌, ◌<◌, ◌≤◌, List, [], ◌∷◌, refl, ◌∙◌, arith, length, map, slice_index_or}
use Rattle.std.specs.List.{range_with_len}
use Rattle.std.proofs.lemmas.List.{map-id}
use Rattle.std.proofs.lemmas.Option.{get_or_from_slice_get, slice_get-get_or}

-- a place within a list has one element
pub get_or_any : {A : Type 0} (xs : List A) (i : ℕ) (d e : A) → i < length xs → slice_index_or xs i d ≡ slice_index_or xs i e
get_or_any xs i d e h = get_or_from_slice_get xs i (slice_index_or xs i e) d (slice_get-get_or xs i e h)

-- a function of numbers and one of a list's elements that agree one by one
pub mapped_alike : {A X : Type 0} (f : ℕ → X) (g : A → X) (i : ℕ) (xs : List A)
    → ((j : ℕ) (d : A) → j < length xs → f (i + j) ≡ g (slice_index_or xs j d))
    → map f (range_with_len i (length xs)) ≡ map g xs
mapped_alike f g i [] agree = refl
mapped_alike f g i (x ∷ xs) agree =
    let z : i + 0 ≡ i = omega arith in
    let first : f i ≡ g x = rw z at (agree 0 x (omega arith)) in
    let rest = mapped_alike f g (i + 1) xs
    (λ j d h. let e : i + suc j ≡ (i + 1) + j = omega arith in rw e at (agree (suc j) d (omega (arith, h)))) in
    rw (first, rest) refl

-- the numbers' values are the list
pub mapped_list : (f : ℕ → ℕ) (xs : List ℕ) → ((j : ℕ) → j < length xs → f j ≡ slice_index_or xs j 0)
    → map f (range_with_len 0 (length xs)) ≡ xs
mapped_list f xs agree =
    mapped_alike f (λ (x : ℕ). x) 0 xs
    (λ j d h. let e : 0 + j ≡ j = omega arith in rw e (agree j h ∙ get_or_any xs j 0 d h))
    ∙ map-id xs

-- the same values make the same list
pub mapped_same : {X : Type 0} (f g : ℕ → X) (i n : ℕ) → ((j : ℕ) → i ≤ j → j < i + n → f j ≡ g j)
    → map f (range_with_len i n) ≡ map g (range_with_len i n)
mapped_same f g i zero same = refl
mapped_same f g i (suc n) same =
    let first = same i (omega arith) (omega arith) in
    let rest = mapped_same f g (i + 1) n (λ j low high. same j (omega (arith, low)) (omega (arith, high))) in
    rw (first, rest) refl
