-- The output of a history in two parts, and that of histories with the same operations.
use Rattle.std.proofs.Common.{◌≡◌, List, [], ◌∷◌, ◌++◌, refl, ap, sym, ◌∙◌, append_assoc}
use Rattle.run_history.specs.Recorded.{Recorded}
use Rattle.plain_model.specs.Runs.{output_of, printed_by}
use Rattle.plain_model.specs.Laws.{ops_of}

pub output_of-append : (front rest : List Recorded) → output_of (front ++ rest) ≡ output_of front ++ output_of rest
output_of-append [] rest = refl
output_of-append (a ∷ front) rest =
    ap (λ bytes. printed_by a.act.op ++ bytes) (output_of-append front rest) ∙ sym (append_assoc (printed_by a.act.op) (output_of front) (output_of rest))

pub output_by_operations : (left right : List Recorded) → ops_of left ≡ ops_of right → output_of left ≡ output_of right
output_by_operations [] [] same = refl
output_by_operations [] (b ∷ right) same = absurd (let none : [] ≡ b.act.op ∷ ops_of right = same in cc)
output_by_operations (a ∷ left) [] same = absurd (let none : a.act.op ∷ ops_of left ≡ [] = same in cc)
output_by_operations (a ∷ left) (b ∷ right) same =
    let pair : a.act.op ∷ ops_of left ≡ b.act.op ∷ ops_of right = same in
    let heads : a.act.op ≡ b.act.op = cc in
    let tails : ops_of left ≡ ops_of right = cc in
    ap (λ o. printed_by o ++ output_of left) heads ∙ ap (λ bytes. printed_by b.act.op ++ bytes) (output_by_operations left right tails)
