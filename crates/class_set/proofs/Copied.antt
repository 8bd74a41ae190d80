-- What a look-up by an index gives.
use Rattle.std.proofs.Common.{◌≡◌, ℕ, ◌+◌, ◌<◌, ◌≤◌, true, false, nat_lt, List, [], ◌∷◌, ◌++◌, Option, Some, None, map, take}
use Rattle.std.proofs.Common.{length, slice_index_or, refl, ap, sym, ◌∙◌, arith}
use Rattle.std.specs.Prelude.{IfSome, is_some, slice_get}
use Rattle.std.specs.Borrow.{Bor}
use Rattle.std.specs.Option.{option_copied}
use Rattle.std.proofs.lemmas.Bool.Decides.{nat_tests}
use Rattle.std.proofs.lemmas.List.{map-append, take_more}
use Rattle.std.proofs.lemmas.Option.{slice_get_past, slice_get_read}

pub copied_get : {X : Type 0} (xs : List X) (i : ℕ) (r : Option (Bor X)) → is_some r ≡ nat_lt i (length xs)
    → IfSome r (λ x. x.now ≡ slice_index_or xs i x.now) → option_copied r ≡ slice_get xs i
copied_get xs i None h at =
    let test : nat_lt i (length xs) ≡ false = sym h in
    sym (slice_get_past xs i (grind (arith, nat_tests)))
copied_get xs i (Some x) h at =
    let test : nat_lt i (length xs) ≡ true = sym h in
    sym (slice_get_read xs (length xs) i x.now refl (grind (arith, nat_tests)) at)

pub mapped_more : {A B C : Type 0} (f : A → C) (g : B → C) (xs : List A) (x : A) (ys : List B) (i : ℕ) (d : B) → i < length ys
    → map f xs ≡ map g (take i ys) → f x ≡ g (slice_index_or ys i d) → map f (xs ++ x ∷ []) ≡ map g (take (i + 1) ys)
mapped_more f g xs x ys i d l same at =
    map-append f xs (x ∷ [])
    ∙ ap (λ zs. zs ++ f x ∷ []) same
    ∙ ap (λ z. map g (take i ys) ++ z ∷ []) at
    ∙ sym (map-append g (take i ys) (slice_index_or ys i d ∷ []))
    ∙ ap (map g) (sym (take_more ys i d l))

pub nothing_over : (o : Option ℕ) (n : ℕ) → o ≡ None → (k : ℕ) → o ≡ Some k → n ≤ k
nothing_over o n e k h = absurd (none_some (sym e ∙ h))
  where
    none_some : {k : ℕ} → None ≡ Some k → ⊥
    none_some e = absurd (cc)

pub only_over : (o : Option ℕ) (n j : ℕ) → o ≡ Some j → n ≤ j → (k : ℕ) → o ≡ Some k → n ≤ k
only_over o n j e l k h = (let same : j ≡ k = cc in omega (arith, l, same))
