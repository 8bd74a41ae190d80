-- Pairs that are read one after the other.
use Rattle.std.proofs.Common.{◌≡◌, ℕ, ◌-◌, ◌≤◌, List, [], ◌∷◌, ◌++◌, length, get_or, take, drop, Result, Ok, Err, refl, sym}
use Rattle.std.proofs.Common.{◌∙◌, ap, append_assoc, arith}
use Rattle.std.proofs.lemmas.List.{take_rest}
use Rattle.parsing.specs.Results.{◌>>=◌}
use Rattle.listing_lines.specs.declared.lines.KeyLabel.{KeyLabel}
use Rattle.listing_lines.specs.declared.refusal.LineRefusal.{LineRefusal}
use Rattle.listing_lines.specs.Instructions.{key_label, pairs}

abbrev Pairs : Type 0
Pairs = Result (List KeyLabel) LineRefusal

abbrev read_all : List KeyLabel → Pairs
read_all found = Ok found

abbrev behind : List KeyLabel → Pairs → Pairs
behind found read = read >>= λ others. Ok (found ++ others)

regroup : (found : List KeyLabel) (pair : KeyLabel) (read : Pairs)
    → behind found (read >>= λ others. Ok (pair ∷ others)) ≡ behind (found ++ pair ∷ []) read
regroup found pair (Err e) = refl
regroup found pair (Ok others) = ap read_all (sym (append_assoc found (pair ∷ []) others))

-- what is left behind the first two
two_first : (words : List (List ℕ)) (key label : List ℕ) → 2 ≤ length words → key ≡ get_or words 0 key
    → label ≡ get_or words 1 label
    → words ≡ key ∷ label ∷ take (length words - 2) (drop 2 words)
two_first [] key label long first second = absurd (omega arith)
two_first (a ∷ []) key label long first second = absurd (omega arith)
two_first (a ∷ b ∷ more) key label long first second =
    ap (λ (w : List ℕ). w ∷ b ∷ more) (sym first)
    ∙ ap (λ (w : List ℕ). key ∷ w ∷ more) (sym second)
    ∙ ap (λ (w : List (List ℕ)). key ∷ label ∷ w) (sym (take_rest (a ∷ b ∷ more) 2))

pub one_more : (found new : List KeyLabel) (words : List (List ℕ)) (key label : List ℕ)
    (pair : KeyLabel) (total : Pairs) → 2 ≤ length words
    → key ≡ get_or words 0 key → label ≡ get_or words 1 label → key_label key label ≡ Ok pair
    → new ≡ found ++ pair ∷ []
    → behind found (pairs words) ≡ total → behind new (pairs (take (length words - 2) (drop 2 words))) ≡ total
unfolding pairs
one_more found new words key label pair total long first second is new_is so_far =
    let rest = take (length words - 2) (drop 2 words) in
    let read : pairs (key ∷ label ∷ rest) ≡ (pairs rest >>= λ others. Ok (pair ∷ others)) = rw is refl in
    ap (λ (all : List KeyLabel). behind all (pairs rest)) new_is
    ∙ sym (regroup found pair (pairs rest))
    ∙ ap (behind found) (sym read ∙ ap pairs (sym (two_first words key label long first second)))
    ∙ so_far
