-- Lists that are the same so far.
use Rattle.std.proofs.Common.{◌≡◌, ◌<◌, ℕ, List, length, get_or, sym, ◌∙◌, ap, arith}
use Rattle.std.proofs.lemmas.List.{get_or_default}

-- elements of the same lists at a place are the same
pub same-at : {X : Type 0} (xs ys : List X) (x y : X) (i : ℕ) → xs ≡ ys → i < length xs → x ≡ get_or xs i x → y ≡ get_or ys i y → x ≡ y
same-at xs ys x y i same lt is_x is_y =
    is_x ∙ ap (λ zs. get_or zs i x) same ∙ sym (is_y ∙ get_or_default ys i y x (let e = ap length same in omega (arith, lt, e)))
