-- What lists and `flat_map` have.
use Rattle.std.proofs.Common.{◌≡◌, ◌<◌, zero, suc, List, [], ◌∷◌, ◌++◌, length, refl, ap₂, arith, inl, inr}
use Rattle.std.specs.Prelude.{Contains, ◌⊎◌}
use Rattle.std.specs.List.{flat_map}

pub Contains-head : {X : Type 0} (x : X) (xs : List X) → Contains (x ∷ xs) x
Contains-head x xs = (0, omega arith, refl)

pub Contains-tail : {X : Type 0} (x : X) (xs : List X) (y : X) → Contains xs y → Contains (x ∷ xs) y
Contains-tail x xs y c = (suc c.0, omega (arith, c.1), c.2)

pub Contains-cons_cases : {X : Type 0} (x : X) (xs : List X) (y : X) → Contains (x ∷ xs) y → (x ≡ y) ⊎ Contains xs y
Contains-cons_cases x xs y (zero, l, e) = inl e
Contains-cons_cases x xs y (suc k, l, e) = inr (k, omega (arith, l), e)

pub Contains-nil : {X : Type 0} (y : X) → Contains [] y → ⊥
Contains-nil y c = omega (arith, c.1)

pub flat_map-same : {X Y : Type 0} (f g : X → List Y) (xs : List X) → ((x : X) → Contains xs x → f x ≡ g x)
    → flat_map f xs ≡ flat_map g xs
flat_map-same f g [] same = refl
flat_map-same f g (x ∷ xs) same = ap₂ (λ a b. a ++ b) (same x (Contains-head x xs))
    (flat_map-same f g xs (λ y c. same y (Contains-tail x xs y c)))

pub cons_head : {X : Type 0} (x y : X) (xs ys : List X) → x ∷ xs ≡ y ∷ ys → x ≡ y
cons_head x y xs ys e = cc

pub cons_tail : {X : Type 0} (x y : X) (xs ys : List X) → x ∷ xs ≡ y ∷ ys → xs ≡ ys
cons_tail x y xs ys e = cc

pub no_items : {X : Type 0} (xs : List X) → (0 < length xs → ⊥) → xs ≡ []
no_items [] h = refl
no_items (x ∷ xs) h = absurd (h (omega arith))
