-- What texts have after some of others are added, in their order.
use Rattle.std.proofs.Common.{◌≡◌, ℕ, zero, suc, ◌+◌, ◌<◌, List, [], ◌∷◌, ◌++◌, drop, length, take, refl, ap, sym, ◌∙◌, arith}
use Rattle.std.proofs.Common.{add-one}
use Rattle.text_table.specs.Texts.{with_text, with_texts}

one_more : {A : Type 0} (n : ℕ) (xs : List A) (x : A) (rest : List A) → drop n xs ≡ x ∷ rest → take (suc n) xs ≡ take n xs ++ x ∷ []
one_more zero [] x rest e = absurd (cc)
one_more zero (y ∷ ys) x rest e = let same : y ≡ x = cc in ap (λ z. z ∷ []) same
one_more (suc n) [] x rest e = absurd (cc)
one_more (suc n) (y ∷ ys) x rest e = ap (λ zs. y ∷ zs) (one_more n ys x rest e)

one_left : {A : Type 0} (n : ℕ) (xs : List A) (x : A) (rest : List A) → drop n xs ≡ x ∷ rest → drop (suc n) xs ≡ rest
one_left zero [] x rest e = absurd (cc)
one_left zero (y ∷ ys) x rest e = cc
one_left (suc n) [] x rest e = absurd (cc)
one_left (suc n) (y ∷ ys) x rest e = one_left n ys x rest e

pub within : {A : Type 0} (n : ℕ) (xs : List A) (x : A) (rest : List A) → drop n xs ≡ x ∷ rest → n < length xs
within zero [] x rest e = absurd (cc)
within zero (y ∷ ys) x rest e = omega arith
within (suc n) [] x rest e = absurd (cc)
within (suc n) (y ∷ ys) x rest e = let l : n < length ys = within n ys x rest e in omega arith

with_append : (texts others more : List (List ℕ)) → with_texts texts (others ++ more) ≡ with_texts (with_texts texts others) more
with_append texts [] more = refl
with_append texts (t ∷ ts) more = with_append (with_text texts t) ts more

-- after the next of the others
pub with_next : (texts others : List (List ℕ)) (n : ℕ) (text : List ℕ) (rest : List (List ℕ)) → drop n others ≡ text ∷ rest
    → with_text (with_texts texts (take n others)) text ≡ with_texts texts (take (n + 1) others)
with_next texts others n text rest e =
    sym (with_append texts (take n others) (text ∷ []))
    ∙ ap (with_texts texts) (sym (one_more n others text rest e) ∙ ap (λ m. take m others) (sym (add-one n)))

pub left_next : (others : List (List ℕ)) (n : ℕ) (text : List ℕ) (rest : List (List ℕ)) → drop n others ≡ text ∷ rest
    → drop (n + 1) others ≡ rest
left_next others n text rest e = ap (λ m. drop m others) (add-one n) ∙ one_left n others text rest e
