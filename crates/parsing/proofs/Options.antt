-- Steps that gave something, and values that a loop reads one after the other, where what is read is there or
-- not.
use Rattle.std.proofs.Common.{◌≡◌, List, [], ◌∷◌, ◌++◌, Option, Some, None, refl, sym, ap, append_assoc}
use Rattle.parsing.specs.Options.{◌>>=◌}

abbrev pub some : {A : Type 0} → A → Option A
some x = Some x

pub some_is : {A : Type 0} (x y : A) → some x ≡ some y → x ≡ y
some_is x y e = cc

pub bind_some : {A B : Type 0} (o : Option A) (f : A → Option B) (y : B) → (o >>= f) ≡ Some y
    → (x : A) × (o ≡ Some x) × (f x ≡ Some y)
bind_some None f y e = absurd cc
bind_some (Some x) f y e = (x, refl, e)

-- what was read before, and what is still read
abbrev pub with_front : {X S : Type 0} → List X → Option (List X × S) → Option (List X × S)
with_front front read = read >>= λ x. Some (front ++ x.0, x.1)

-- one value more in front is one value less among those that are still read
pub regroup : {X S : Type 0} (front : List X) (x : X) (read : Option (List X × S))
    → with_front front (read >>= λ r. Some (x ∷ r.0, r.1)) ≡ with_front (front ++ x ∷ []) read
regroup front x None = refl
regroup {X} {S} front x (Some r) =
    ap (λ (xs : List X). some {A = List X × S} (xs, r.1)) (sym (append_assoc front (x ∷ []) r.0))
