-- Text that is written with zeros behind it.
use Rattle.std.proofs.Common.{◌≡◌, ℕ, ◌+◌, ◌-◌, ◌≤◌, List, [], ◌∷◌, ◌++◌, replicate, sym, ap, ◌∙◌, append_assoc, arith}
use Rattle.std.proofs.Common.{Result, OnOk}
use Rattle.std.proofs.lemmas.Result.{on_ok_weaker}
use Rattle.std.proofs.lemmas.List.{append-nil, replicate_more}

pub none_yet : (old number text : List ℕ) (n : ℕ) → (old ++ number) ++ text ≡ old ++ (number ++ (text ++ replicate (n - n) 0))
none_yet old number text n =
    let k : n - n ≡ 0 = omega arith in
    append_assoc old number text ∙ ap (λ (t : List ℕ). old ++ (number ++ t)) (sym (append-nil text) ∙ ap (λ
    (m : ℕ). text ++ replicate m 0) (sym k))

pub one_zero : (out old number text : List ℕ) (i n : ℕ) → n ≤ i → out ≡ old ++ (number ++ (text ++ replicate (i - n) 0))
    → out ++ 0 ∷ [] ≡ old ++ (number ++ (text ++ replicate (i + 1 - n) 0))
one_zero out old number text i n le so_far =
    let k : i + 1 - n ≡ (i - n) + 1 = omega (arith, le) in
    ap (λ (l : List ℕ). l ++ 0 ∷ []) so_far ∙ append_assoc old (number ++ (text ++ replicate (i - n) 0)) (0 ∷ [])
    ∙ ap (λ (l : List ℕ). old ++ l) (append_assoc number (text ++ replicate (i - n) 0) (0 ∷ []))
    ∙ ap (λ (l : List ℕ). old ++ (number ++ l)) (append_assoc text (replicate (i - n) 0) (0 ∷ []))
    ∙ ap (λ (l : List ℕ). old ++ (number ++ (text ++ l))) (replicate_more (i - n) 0 ∙ ap (λ (m : ℕ). replicate m 0) (sym k))

-- what three calls have put, one after the other
pub three_put : {T E : Type 0} (r : Result T E) (old one two new first second third : List ℕ) → one ≡ old ++ first
    → two ≡ one ++ second → OnOk r (new ≡ two ++ third) → OnOk r (new ≡ old ++ (first ++ (second ++ third)))
three_put r old one two new first second third a b =
    on_ok_weaker r (λ e. e ∙ ap (λ (l : List ℕ). l ++ third) (b ∙ ap (λ (l : List ℕ). l ++ second) a)
    ∙ append_assoc (old ++ first) second third ∙ append_assoc old first (second ++ third))
