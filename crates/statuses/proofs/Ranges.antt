-- Texts of numbers, one after the other.
use Rattle.std.proofs.Common.{◌≡◌, ℕ, ◌+◌, List, [], ◌∷◌, ◌++◌, ap, sym, ◌∙◌, arith}
use Rattle.std.specs.List.{flat_map, range_with_len}
use Rattle.std.proofs.lemmas.List.{map-id, flat_map_more}
use Rattle.std.proofs.lemmas.List.FromFn.{map-range_with_len_more}

range_more : (n : ℕ) → range_with_len 0 (n + 1) ≡ range_with_len 0 n ++ n ∷ []
range_more n =
    sym (map-id (range_with_len 0 (n + 1))) ∙ map-range_with_len_more (λ (k : ℕ). k) 0 n n (omega arith)
    ∙ ap (λ (xs : List ℕ). xs ++ n ∷ []) (map-id (range_with_len 0 n))

pub range_put : (f : ℕ → List ℕ) (n : ℕ) (front was now : List ℕ) → was ≡ front ++ flat_map f (range_with_len 0 n) → now ≡ was ++ f n
    → now ≡ front ++ flat_map f (range_with_len 0 (n + 1))
range_put f n front was now had put =
    put ∙ ap (λ (xs : List ℕ). xs ++ f n) had ∙ flat_map_more f front (range_with_len 0 n) n
    ∙ ap (λ (xs : List ℕ). front ++ flat_map f xs) (sym (range_more n))
