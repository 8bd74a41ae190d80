-- Steps that did not fail.
use Rattle.std.proofs.Common.{◌≡◌, ◌⊎◌, inl, inr, Bool, true, false, cond, Option, Some, None, Result, Ok, Err, refl, ap}
use Rattle.parsing.specs.Results.{◌>>=◌, placed, unless_found}

-- what is read, with the type of the refusals told
abbrev pub done : {A : Type 0} → (E : Type 0) → A → Result A E
done E x = Ok x

pub ok_is : {A : Type 0} (E : Type 0) (x y : A) → done E x ≡ done E y → x ≡ y
ok_is E x y e = cc

pub bind_ok : {A B E : Type 0} (r : Result A E) (f : A → Result B E) (y : B) → (r >>= f) ≡ Ok y
    → (x : A) × (r ≡ Ok x) × (f x ≡ Ok y)
bind_ok (Ok x) f y e = (x, refl, e)
bind_ok (Err d) f y e = absurd cc

-- a test that must fail for the step to go on
pub unless_ok : {A E : Type 0} (wrong : Bool) (d : E) (x y : A) → cond wrong (Err d) (Ok x) ≡ Ok y
    → (wrong ≡ false) × (x ≡ y)
unless_ok true d x y e = absurd cc
unless_ok false d x y e = let same : x ≡ y = cc in (refl, same)

-- a test that must hold for the step to go on
pub where_ok : {A E : Type 0} (right : Bool) (d : E) (x y : A) → cond right (Ok x) (Err d) ≡ Ok y
    → (right ≡ true) × (x ≡ y)
where_ok false d x y e = absurd cc
where_ok true d x y e = let same : x ≡ y = cc in (refl, same)

-- nothing was found that is wrong
pub none_found : {A E : Type 0} (o : Option A) (fault : A → E) (u : Unit {0}) → unless_found o fault ≡ Ok u
    → o ≡ None
none_found None fault u e = refl
none_found (Some x) fault u e = absurd cc

pub placed_ok : {A E F : Type 0} (place : E → F) (read : Result A E) (x : A) → placed place read ≡ Ok x
    → read ≡ Ok x
placed_ok {A} {E} {F} place (Ok y) x e = ap (done E) (ok_is F y x e)
placed_ok place (Err d) x e = absurd cc

-- a whole is refused where a part of it is, unless the refusal is the one that is free
pub refused_with : {A B E : Type 0} (free e : E) (part : Result A E) (whole : Result B E)
    → (e ≡ free) ⊎ (part ≡ Err e) → (part ≡ Err e → whole ≡ Err e) → (e ≡ free) ⊎ (whole ≡ Err e)
refused_with free e part whole (inl none) so = inl none
refused_with free e part whole (inr refused) so = inr (so refused)

-- a refusal that is placed is that of what is placed
pub refused_placed : {A E F : Type 0} (place : E → F) (free e : E) (read : Result A E)
    → (e ≡ free) ⊎ (read ≡ Err e) → (place e ≡ place free) ⊎ (placed place read ≡ Err (place e))
refused_placed place free e read (inl none) = inl (ap place none)
refused_placed place free e read (inr refused) = inr (ap (placed place) refused)
