-- Walks, object by object.
use Rattle.std.proofs.Common.{◌≡◌, ℕ, zero, suc, ◌+◌, ◌<◌, ◌≤◌, max, inl, inr, Bool, false, List, [], ◌∷◌, ◌++◌, Some, None, Ok}
use Rattle.std.proofs.Common.{Err, refl, ap, sym, ◌∙◌, length, map, take, slice_index_or, arith, add-one, subst}
use Rattle.std.proofs.Math.Seq.{take-suc}
use Rattle.std.proofs.lemmas.Bool.{cases_lt, lt-ltb}
use Rattle.std.proofs.lemmas.List.{map-append, take-append-le, append_assoc, append-nil, take_all}
use Rattle.graph_model.specs.declared.types.Value.{Value}
use Rattle.graph_model.specs.declared.types.Shape.{Shape}
use Rattle.graph_model.specs.declared.types.Node.{Node}
use Rattle.graph_model.specs.Canon.{with_new}
use Rattle.graph_model.proofs.Numbers.{with_new-prefix}
use Rattle.image_layout.specs.Places.{first_object_line, lines_of}
use Rattle.image_meaning.specs.Checks.{Words, Bad}
use Rattle.image_meaning.specs.Objects.{length_at, shape_of, values_at, object_fault}
use Rattle.image_meaning.specs.Meaning.{walk, node_at}
use Rattle.image_meaning.specs.Opening.{free_line}
use Rattle.image_meaning.proofs.Stands.{walk-past}
use Rattle.image_walk.specs.Walking.{IsFault, IsFaultOf, IsTaken}
use Rattle.image_walk.specs.declared.fault.RecoverFault.{RecoverFault}
use Rattle.image_walk.specs.declared.fault.RecoverFault.TheVariants as faults
use Rattle.image_walk.specs.Found.{IsVisit}
use Rattle.image_walk.specs.declared.visiting.Visited.{Visited}
use Rattle.image_walk.proofs.Placing.{found_numbers_stay}

module _ (shapes : List Shape) (size : ℕ) (words : Words) (start : List Value) where
  walk_more : (k : ℕ) (found : List ℕ) → walk shapes size words start k ≡ Ok found → k < length found
      → object_fault shapes size words (take k found) (slice_index_or found k 0) ≡ None
      → walk shapes size words start (k + 1) ≡ Ok (with_new found (values_at shapes words (slice_index_or found k 0)))
  unfolding walk
  walk_more k found so below passes = rw (add-one, so, lt-ltb k (length found) below, passes) refl

  walk_bad : (k : ℕ) (found : List ℕ) (bad : Bad) → walk shapes size words start k ≡ Ok found → k < length found
      → object_fault shapes size words (take k found) (slice_index_or found k 0) ≡ Some bad
      → walk shapes size words start (k + 1) ≡ Err bad
  unfolding walk
  walk_bad k found bad so below fails = rw (add-one, so, lt-ltb k (length found) below, fails) refl

  bad_stays : (k n : ℕ) (bad : Bad) → walk shapes size words start k ≡ Err bad → k ≤ n → walk shapes size words start n ≡ Err bad
  unfolding walk
  bad_stays k zero bad fails upto = let none : k ≡ zero = omega (arith, upto) in rw none at fails
  bad_stays k (suc n) bad fails upto = elim (cases_lt k (suc n)) [
    | inl before ↦ rw (bad_stays k n bad fails (omega (arith, before))) refl
    | inr past ↦ (let same : k ≡ suc n = omega (arith, upto, past) in rw same at fails)
  ]

  pub walk_fails : (k : ℕ) (found : List ℕ) (line : ℕ) (bad : Bad) → walk shapes size words start k ≡ Ok found → k < length found → k < size
      → slice_index_or found k 0 ≡ line → object_fault shapes size words (take k found) line ≡ Some bad
      → walk shapes size words start size ≡ Err bad
  walk_fails k found line bad so below within at fails =
      bad_stays (k + 1) size bad
      (walk_bad k found bad so below (subst (λ l. object_fault shapes size words (take k found) l ≡ Some bad) (sym at) fails))
      (omega (arith, within))

  pub walk_fault : (k : ℕ) (found : List ℕ) (line : ℕ) (fault : RecoverFault) → walk shapes size words start k ≡ Ok found → k < length found
      → k < size → slice_index_or found k 0 ≡ line → IsFault (object_fault shapes size words (take k found) line) fault
      → IsFaultOf (walk shapes size words start size) fault
  walk_fault k found line (faults.Bad at reason) so below within here fails = walk_fails k found line (at, reason) so below within here fails
  walk_fault k found line faults.ImageFailed so below within here fails = tt
  walk_fault k found line faults.OutOfMemory so below within here fails = tt

  -- what is so after the first objects were looked at
  pub record IsWalking (next : ℕ) (found : List ℕ) (taken : List Bool) (nodes : List Node) (free : ℕ) : Type 0 where
    pub walks : walk shapes size words start next ≡ Ok found
    pub takes : IsTaken taken words (take next found)
    pub nodes_are : (extra : List ℕ) → nodes ≡ map (node_at shapes words (found ++ extra)) (take next found)
    pub free_is : free ≡ free_line words (take next found)

  pub walking_none : (found : List ℕ) (taken : List Bool) → found ≡ with_new [] start
      → ((l : ℕ) → l < length taken → slice_index_or taken l false ≡ false) → IsWalking 0 found taken [] first_object_line
  unfolding walk
  walking_none found taken is none = record {
    walks = ap (λ (ls : List ℕ). Ok ls) (sym is);
    takes = λ l below. none l below;
    nodes_are = λ extra. refl;
    free_is = refl;
  }

  free_more : (lines : List ℕ) (line : ℕ)
      → free_line words (lines ++ line ∷ []) ≡ max (free_line words lines) (line + lines_of (length_at words line))
  free_more [] line = omega arith
  free_more (first ∷ lines) line =
      let more = free_more lines line in
      omega (arith, more)

  take_more : (found more : List ℕ) (k : ℕ) → k < length found
      → take (k + 1) (found ++ more) ≡ take k found ++ slice_index_or found k 0 ∷ []
  take_more found more k below =
      rw add-one (take-append-le (suc k) found more (omega (arith, below)) ∙ take-suc found k 0 below)

  same_node : (found extra : List ℕ) (line : ℕ)
      → node_at shapes words (with_new found (values_at shapes words line) ++ extra) line
      ≡ node_at shapes words (with_new found (values_at shapes words line)) line
  same_node found extra line =
      ap (λ (values : List Value). record { shape = shape_of shapes words line; values = values })
      (found_numbers_stay found extra (values_at shapes words line))

  pub walking_on : (next : ℕ) (found more : List ℕ) (taken later : List Bool) (nodes : List Node) (free line : ℕ) (visited : Visited)
      → IsWalking next found taken nodes free → next < length found → slice_index_or found next 0 ≡ line
      → IsVisit shapes size words (take next found) line found more later visited
      → IsWalking (next + 1) more later (nodes ++ visited.node ∷ []) (max free visited.end)
  walking_on next found more taken later nodes free line visited so below at visit =
      let values = values_at shapes words line in
      let extra = with_new-prefix found values in
      let longer : more ≡ found ++ extra.0 = visit.finds ∙ extra.1 in
      let front : take (next + 1) more ≡ take next found ++ line ∷ [] =
      ap (take (next + 1)) longer ∙ take_more found extra.0 next below ∙ ap (λ (l : ℕ). take next found ++ l ∷ []) at in
      record {
        walks = walk_more next found so.walks below
            (subst (λ l. object_fault shapes size words (take next found) l ≡ None) (sym at) visit.passes)
            ∙ ap (λ (l : ℕ). Ok (with_new found (values_at shapes words l))) at ∙ ap (λ (ls : List ℕ). Ok ls) (sym visit.finds);
        takes = subst (IsTaken later words) (sym front) visit.takes;
        nodes_are = λ rest.
            let all : more ++ rest ≡ found ++ (extra.0 ++ rest) = ap (λ (ls : List ℕ). ls ++ rest) longer ∙ append_assoc found extra.0 rest in
            let last : visited.node ≡ node_at shapes words (more ++ rest) line =
            visit.node ∙ ap (λ (ls : List ℕ). node_at shapes words ls line) visit.finds ∙ sym (same_node found rest line)
            ∙ ap (λ (ls : List ℕ). node_at shapes words (ls ++ rest) line) (sym visit.finds) in
            ap (λ (ns : List Node). ns ++ visited.node ∷ []) (so.nodes_are (extra.0 ++ rest))
            ∙ ap (λ (ls : List ℕ). map (node_at shapes words ls) (take next found) ++ visited.node ∷ []) (sym all)
            ∙ ap (λ (n : Node). map (node_at shapes words (more ++ rest)) (take next found) ++ n ∷ []) last
            ∙ sym (map-append (node_at shapes words (more ++ rest)) (take next found) (line ∷ []))
            ∙ ap (map (node_at shapes words (more ++ rest))) (sym front);
        free_is = ap (λ (f : ℕ). max f visited.end) so.free_is
            ∙ ap (λ (e : ℕ). max (free_line words (take next found)) e) visit.behind
            ∙ sym (free_more (take next found) line) ∙ ap (free_line words) (sym front);
      }

  pub walk_all : (next : ℕ) (found : List ℕ) (taken : List Bool) (nodes : List Node) (free : ℕ) → IsWalking next found taken nodes free
      → length found ≤ next → next ≤ size
      → (walk shapes size words start size ≡ Ok found) × (nodes ≡ map (node_at shapes words found) found) × (free ≡ free_line words found)
  walk_all next found taken nodes free so past within =
      let whole : take next found ≡ found = take_all next found past in (
        walk-past shapes size words start next found so.walks past size within,
        so.nodes_are [] ∙ ap (λ (ls : List ℕ). map (node_at shapes words ls) (take next found)) (append-nil found)
            ∙ ap (map (node_at shapes words found)) whole,
        so.free_is ∙ ap (free_line words) whole,
      )
