-- Lists that are made one element after another.
use Rattle.std.proofs.Common.{◌≡◌, ℕ, ◌+◌, ◌<◌, List, [], ◌∷◌, ◌++◌, map, take, length, get_or, ap, sym, ◌∙◌, append_assoc}
use Rattle.std.proofs.lemmas.List.{get_or_default, map-append, take_more}

pub mapped_more : {A B : Type 0} (f : A → B) (xs : List A) (x : A) (i : ℕ) → i < length xs → x ≡ get_or xs i x
    → map f (take (i + 1) xs) ≡ map f (take i xs) ++ f x ∷ []
mapped_more f xs x i below at =
    ap (λ ys. map f ys) (take_more xs i x below)
    ∙ map-append f (take i xs) (get_or xs i x ∷ [])
    ∙ ap (λ y. map f (take i xs) ++ f y ∷ []) (sym at)

-- one element more, behind those that were there at first
pub made_more : {A B : Type 0} (f : A → B) (xs : List A) (x : A) (i : ℕ) (y : B) (start old new : List B)
    → i < length xs → x ≡ get_or xs i x → y ≡ f x → new ≡ old ++ y ∷ [] → old ≡ start ++ map f (take i xs)
    → new ≡ start ++ map f (take (i + 1) xs)
made_more f xs x i y start old new below at made pushed so_far =
    pushed ∙ ap (λ ys. ys ++ y ∷ []) so_far ∙ ap (λ z. (start ++ map f (take i xs)) ++ z ∷ []) made
    ∙ append_assoc start (map f (take i xs)) (f x ∷ [])
    ∙ ap (λ ys. start ++ ys) (sym (mapped_more f xs x i below at))

-- an element, whatever stands for those past the end
pub at_itself : {A : Type 0} (xs : List A) (i : ℕ) (d : A) → i < length xs → get_or xs i d ≡ get_or xs i (get_or xs i d)
at_itself xs i d below = get_or_default xs i d (get_or xs i d) below
