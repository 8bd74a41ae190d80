-- Values that a loop reads one after the other.
use Rattle.std.proofs.Common.{◌≡◌, ◌⊎◌, inl, inr, ℕ, suc, ◌+◌, ◌-◌, ◌<◌, ◌≤◌, List, [], ◌∷◌, ◌++◌, Result, Ok, Err, refl, sym}
use Rattle.std.proofs.Common.{ap, ◌∙◌, append_assoc, arith}
use Rattle.std.proofs.lemmas.List.{append-nil}
use Rattle.parsing.specs.Results.{◌>>=◌, many_from}
use Rattle.parsing.proofs.Steps.{done}

-- what was read before, and what is still read
abbrev pub with_front : {X S E : Type 0} → List X → Result (List X × S) E → Result (List X × S) E
with_front front read = read >>= λ x. Ok (front ++ x.0, x.1)

-- one value more in front is one value less among those that are still read
pub regroup : {X S E : Type 0} (front : List X) (x : X) (read : Result (List X × S) E)
    → with_front front (read >>= λ r. Ok (x ∷ r.0, r.1)) ≡ with_front (front ++ x ∷ []) read
regroup {X} {S} {E} front x (Ok r) = ap (λ (xs : List X). done E (xs, r.1)) (simp append_assoc)
regroup front x (Err f) = refl

module _ {X S E : Type 0} (read : S → Result (X × S) E) (front : List X) (count i : ℕ) (left : S)
    (total : Result (List X × S) E) where
  pub goes_on : (x : X) (after : S) → i < count → read left ≡ Ok (x, after)
      → with_front front (many_from read (count - i) left) ≡ total
      → with_front (front ++ x ∷ []) (many_from read (count - (i + 1)) after) ≡ total
  unfolding many_from
  goes_on x after lt h so_far =
      let k : count - i ≡ suc (count - (i + 1)) = omega arith in
      let one : with_front front (many_from read (count - i) left)
      ≡ with_front (front ++ x ∷ []) (many_from read (count - (i + 1)) after) =
      rw (k, h) (regroup front x (many_from read (count - (i + 1)) after)) in
      sym one ∙ so_far

  pub stops : (e : E) → i < count → read left ≡ Err e
      → with_front front (many_from read (count - i) left) ≡ total → total ≡ Err e
  unfolding many_from
  stops e lt h so_far =
      let k : count - i ≡ suc (count - (i + 1)) = omega arith in
      let one : with_front front (many_from read (count - i) left) ≡ Err e = rw (k, h) refl in
      sym so_far ∙ one

  -- the same where the refusal may be free
  pub ends : (free e : E) → i < count → (e ≡ free) ⊎ (read left ≡ Err e)
      → with_front front (many_from read (count - i) left) ≡ total → (e ≡ free) ⊎ (total ≡ Err e)
  ends free e lt (inl none) so_far = inl none
  ends free e lt (inr h) so_far = inr (stops e lt h so_far)

  pub is_done : count ≤ i → with_front front (many_from read (count - i) left) ≡ total
      → total ≡ Ok (front, left)
  unfolding many_from
  is_done le so_far =
      let k : count - i ≡ 0 = omega arith in
      let one : with_front front (many_from read (count - i) left) ≡ Ok (front, left) =
      rw k (ap (λ (xs : List X). done E (xs, left)) (append-nil front)) in
      sym so_far ∙ one
