-- Marks after one more object was found.
use Rattle.std.proofs.Common.{◌≡◌, ℕ, ◌<◌, Bool, true, false, List, [], ◌∷◌, ◌++◌, length, slice_index_or, slice_set, ap, sym, ◌∙◌}
use Rattle.std.proofs.Common.{nat_eq, ◌||◌, inl, inr, eq-eqb, length-set, refl}
use Rattle.std.proofs.lemmas.Bool.{cases_eq, ne_eqb, or_right}
use Rattle.std.proofs.lemmas.Cmp.{nat_eq_equiv}
use Rattle.std.proofs.Math.Bool.{or-false}
use Rattle.std.proofs.lemmas.List.{get_or-set_same, get_or-set_other}
use Rattle.graph_model.specs.Heaps.{has_number}
use Rattle.graph_model.proofs.Numbers.{has_number-push}
use Rattle.live_heap.specs.Marks.{AreMarked}

pub AreMarked-push : (found : List ℕ) (marks : List Bool) (n : ℕ) → AreMarked found marks
    → AreMarked (found ++ n ∷ []) (slice_set marks n true)
AreMarked-push found marks n are m within =
    let size : length (slice_set marks n true) ≡ length marks = length-set marks n true in
    let there : m < length marks = rw size at within in
    elim (cases_eq m n) [
      | inl e ↦ rw (e, has_number-push found n n, eq-eqb n n refl)
          (get_or-set_same marks n true false (rw e at there) ∙ sym (or_right (has_number found n) true refl))
      | inr d ↦ get_or-set_other marks n m true false d ∙ are m there
          ∙ sym (has_number-push found n m
          ∙ ap (λ b. has_number found m || b) (nat_eq_equiv.symm n m ∙ ne_eqb m n d) ∙ or-false (has_number found m))
    ]
