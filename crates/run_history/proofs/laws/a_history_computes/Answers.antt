-- Both graphs of the ring, by computation.
use Rattle.std.proofs.Common.{◌≡◌, pos, Bool, true, false, [], ◌∷◌, refl, ap, sym, ◌∙◌, ◌⊎◌, inl, inr, slice_index_or}
use Rattle.std.proofs.Common.{if◌then◌else◌}
use Rattle.ap_base.specs.declared.place.Place.TheVariants.{Slot}
use Rattle.graph_model.specs.declared.types.Value.{Value}
use Rattle.graph_model.specs.declared.types.Value.TheVariants.{Int, Null}
use Rattle.graph_model.specs.declared.types.Graph.{Graph}
use Rattle.graph_model.specs.Canon.{canon_of, found_from}
use Rattle.run_history.specs.declared.act.Op.TheVariants as op
use Rattle.run_history.specs.Worlds.{heap_after}
use Rattle.run_history.specs.Knowing.{known_after_op}
use Rattle.run_history.specs.Laws.{Allows, further, marks_in}
use Rattle.run_history.specs.Ring.{node, ring, ring_stored, ring_with}
use Rattle.run_history.proofs.KeptLists.{remains, left_by}
use Rattle.run_history.proofs.laws.a_history_computes.Goals as goal

-- the graph of the ring, where the store is done or isn't
abbrev graph_where : Bool → Graph
graph_where is_kept = canon_of (heap_after ring (if is_kept then op.Stored (Slot 0 0) (Int (pos 7)) ∷ [] else []))

old : graph_where false ≡ ring_with (Int (pos 5))
unfolding canon_of found_from
old = refl

new : graph_where true ≡ ring_with (Int (pos 7))
unfolding canon_of found_from
new = refl

either : (g : Graph) (is_kept : Bool) → g ≡ graph_where is_kept → (g ≡ ring_with (Int (pos 5))) ⊎ (g ≡ ring_with (Int (pos 7)))
either g true e = inr (e ∙ new)
either g false e = inl (e ∙ old)

left_of_store : (g : Graph) → Allows ring_stored g → (g ≡ ring_with (Int (pos 5))) ⊎ (g ≡ ring_with (Int (pos 7)))
unfolding known_after_op
left_of_store g allowed =
    let (regions, singles, e) = left_by ring (marks_in ring_stored) g allowed in either g (singles 0) e

store_leaves : (g : Graph) → (g ≡ ring_with (Int (pos 5))) ⊎ (g ≡ ring_with (Int (pos 7))) → Allows ring_stored g
unfolding known_after_op
store_leaves g (inl e) = remains ring (marks_in ring_stored) g (λ t. false) (λ t. false) (e ∙ sym old)
store_leaves g (inr e) = remains ring (marks_in ring_stored) g (λ t. false) (λ t. true) (e ∙ sym new)

left_of_fence : (g : Graph) → Allows (further ring_stored 0 3 op.Fenced) g → g ≡ ring_with (Int (pos 7))
unfolding known_after_op
left_of_fence g allowed =
    let (regions, singles, e) = left_by ring (marks_in (further ring_stored 0 3 op.Fenced)) g allowed in e ∙ new

fence_leaves : (g : Graph) → g ≡ ring_with (Int (pos 7)) → Allows (further ring_stored 0 3 op.Fenced) g
unfolding known_after_op
fence_leaves g e = remains ring (marks_in (further ring_stored 0 3 op.Fenced)) g (λ t. false) (λ t. false) (e ∙ sym new)

-- what slot 0 of node 1 holds
abbrev stored_value : Graph → Value
stored_value g = slice_index_or (slice_index_or g.nodes 1 (record { shape = node; values = [] })).values 0 Null

pub returns-clause-two : goal.returns-clause-two
returns-clause-two c = record {
  either = λ g. (left_of_store g, store_leaves g);
  apart = λ e. let values = ap stored_value e in cc;
}

pub returns-clause-one : goal.returns-clause-one
returns-clause-one c = λ g. (left_of_fence g, fence_leaves g)
