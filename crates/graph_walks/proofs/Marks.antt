-- Reached vertices and their marks.
use Rattle.std.proofs.Common.{◌≡◌, ℕ, ◌<◌, ◌≤◌, Bool, true, false, List, [], ◌∷◌, ◌++◌, arith, refl, ap, sym, ◌∙◌, subst}
use Rattle.std.proofs.Common.{length, slice_index_or, slice_set, replicate, nat_eq, ◌||◌, eq-eqb, inl, inr}
use Rattle.std.specs.List.{IsDistinct}
use Rattle.std.proofs.lemmas.Bool.{cases_eq, eqb-true, ne_eqb, or_cases, or_right, false≢true}
use Rattle.std.proofs.lemmas.Cmp.{nat_eq_equiv}
use Rattle.std.proofs.Math.Bool.{or-false}
use Rattle.std.proofs.lemmas.List.{length-append, length-set, length-replicate, get_or-replicate, get_or-set_same}
use Rattle.std.proofs.lemmas.List.{get_or-set_other, get_or_read}
use Rattle.std.proofs.lemmas.Map.Keys.{IsDistinct-push}
use Rattle.std.proofs.lemmas.Map.Steps.{length-le_from_distinct_below}
use Rattle.graph_walks.specs.Reached.{has_vertex, AreMarked}
use Rattle.graph_walks.proofs.Vertices.{has_vertex-push}

pub AreMarked-none : (n : ℕ) → AreMarked [] (replicate n false)
unfolding IsDistinct
AreMarked-none n = record {
  once = tt;
  below = λ v h. absurd (false≢true h);
  marked = λ v l. get_or-replicate n v false false (rw (length-replicate n false) at l);
}

-- no more vertices are reached than there are
pub few_reached : (reached : List ℕ) (marks : List Bool) → AreMarked reached marks → length reached ≤ length marks
few_reached reached marks p = length-le_from_distinct_below reached (length marks) p.once p.below

-- what is read at a vertex is whether it is reached
pub read_mark : (reached : List ℕ) (marks : List Bool) (v : ℕ) (b : Bool) → AreMarked reached marks → v < length marks
    → b ≡ slice_index_or marks v b → b ≡ has_vertex reached v
read_mark reached marks v b p l e = get_or_read marks v b l e false ∙ p.marked v l

pub AreMarked-push : (reached : List ℕ) (marks : List Bool) (n : ℕ) → AreMarked reached marks → n < length marks
    → has_vertex reached n ≡ false → AreMarked (reached ++ n ∷ []) (slice_set marks n true)
AreMarked-push reached marks n p l new =
    let size : length (slice_set marks n true) ≡ length marks = length-set marks n true in
    record {
      once = IsDistinct-push nat_eq_equiv reached n p.once new;
      below = λ v h. rw size (elim (or_cases (has_vertex reached v) (nat_eq v n) (sym (has_vertex-push reached n v) ∙ h))
          [ inl e ↦ p.below v e | inr e ↦ subst (λ m. m < length marks) (sym (eqb-true v n e)) l ]);
      marked = λ v k. let there : v < length marks = rw size at k in elim (cases_eq v n) [
        | inl e ↦ rw e (get_or-set_same marks n true false l
            ∙ sym (has_vertex-push reached n n ∙ or_right (has_vertex reached n) (nat_eq n n) (eq-eqb n n refl)))
        | inr d ↦ get_or-set_other marks n v true false d ∙ p.marked v there
            ∙ sym (has_vertex-push reached n v ∙ ap (λ b. has_vertex reached v || b) (ne_eqb v n d) ∙ or-false (has_vertex reached v))
      ];
    }

-- where a vertex isn't reached, fewer are than there are
pub room_left : (order : List ℕ) (marks : List Bool) (v : ℕ) → AreMarked order marks → v < length marks → has_vertex order v ≡ false
    → length order < length marks
room_left order marks v p l new =
    let few : length (order ++ v ∷ []) ≤ length (slice_set marks v true) =
    few_reached (order ++ v ∷ []) (slice_set marks v true) (AreMarked-push order marks v p l new) in
    omega (arith, few, length-append order (v ∷ []), length-set marks v true)
