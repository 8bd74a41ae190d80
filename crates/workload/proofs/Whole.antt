-- A filter that leaves as many as there were leaves all.
use Rattle.std.proofs.Common.{◌≡◌, ◌≤◌, ◌∷◌, [], Bool, List, length, refl, rules, arith}
use Rattle.std.specs.List.{filter}

fewer : {X : Type 0} (p : X → Bool) (xs : List X) → length (filter p xs) ≤ length xs
fewer p [] = search (rules, arith)
fewer p (x ∷ xs) = search (fewer p xs, rules, arith)

pub whole : {X : Type 0} (p : X → Bool) (xs : List X) → length (filter p xs) ≡ length xs → filter p xs ≡ xs
whole p [] e = refl
whole p (x ∷ xs) e = search (whole p xs, fewer p xs, rules, arith)
