-- Names that are shortened to the room that there is.
use Rattle.std.proofs.Common.{◌≡◌, ℕ, zero, suc, ◌+◌, ◌-◌, ◌≤◌, List, [], ◌∷◌, ◌++◌, length, take, refl, ap, sym, ◌∙◌, arith}
use Rattle.std.proofs.Math.Seq.{take-append-add}
use Rattle.statuses.specs.Names.{shortened}

-- what is added behind a text that fits
pub take_behind : (n : ℕ) (xs ys : List ℕ) → length xs ≤ n → xs ++ take (n - length xs) ys ≡ take n (xs ++ ys)
take_behind n xs ys fits =
    let e : length xs + (n - length xs) ≡ n = omega (arith, fits) in
    sym (take-append-add xs ys (n - length xs)) ∙ ap (λ (k : ℕ). take k (xs ++ ys)) e

-- what is cut once is cut
pub take_again : (n : ℕ) (xs ys : List ℕ) → take n (take n xs ++ ys) ≡ take n (xs ++ ys)
take_again zero xs ys = refl
take_again (suc n) [] ys = refl
take_again (suc n) (x ∷ xs) ys = ap (λ zs. x ∷ zs) (take_again n xs ys)

more : (xs ys t u : List ℕ) → t ≡ shortened xs → u ≡ shortened (t ++ ys) → u ≡ shortened (xs ++ ys)
more xs ys t u was now = now ∙ ap (λ zs. shortened (zs ++ ys)) was ∙ take_again 196606 xs ys

-- four texts, one after the other
pub shortened_four : (a b c d none t u v w : List ℕ) → none ≡ [] → t ≡ shortened (none ++ a) → u ≡ shortened (t ++ b) → v ≡ shortened (u ++ c) → w ≡ shortened (v ++ d)
    → w ≡ shortened (a ++ b ++ c ++ d)
shortened_four a b c d none t u v w empty at bt ct dt =
    let first : t ≡ shortened a = at ∙ ap (λ (zs : List ℕ). shortened (zs ++ a)) empty in
    let second = more a b t u first bt in
    let third = more (a ++ b) c u v second ct in
    more ((a ++ b) ++ c) d v w third dt
