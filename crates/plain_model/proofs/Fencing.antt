-- What a stop may leave of a published node, before its fence and after it.
use Rattle.std.proofs.Common.{◌≡◌, ◌⊎◌, true, false, List, [], ◌∷◌, ◌++◌, refl, ap, ◌∙◌, inl, inr, cond}
use Rattle.graph_model.specs.declared.types.Value.TheVariants.{Null}
use Rattle.graph_model.specs.Canon.{canon_of, found_from}
use Rattle.run_history.specs.declared.act.Op.{Op}
use Rattle.run_history.specs.Knowing.{known_after_op}
use Rattle.run_history.specs.Worlds.{heap_after}
use Rattle.plain_model.specs.First.{first_world, first_heap}
use Rattle.plain_model.specs.Laws.{ops_of}
use Rattle.plain_model.specs.Rows.{nodes, null_root, one_node, made_node, asked, joined, stored, fenced, LeavesEither}
use Rattle.plain_model.specs.Rows.{LeavesTheNode}

-- the operations up to the store, and with it
abbrev unstored : List Op
unstored = ops_of (made_node ++ asked ∷ joined (2 ∷ []) ∷ [])

pub either_before : LeavesEither (asked ∷ joined (2 ∷ []) ∷ stored ∷ [])
unfolding first_world first_heap known_after_op canon_of found_from
either_before g = (
  λ (ops, (regions, singles, is_kept), leaves).
      (elim (singles 0) as (λ b. ops ≡ unstored ++ cond b (stored.act.op ∷ []) [] → (g ≡ null_root) ⊎ (g ≡ one_node Null)) [
        | true ↦ λ e. inr (leaves ∙ ap (λ os. canon_of (heap_after (first_heap nodes null_root) os)) e)
        | false ↦ λ e. inl (leaves ∙ ap (λ os. canon_of (heap_after (first_heap nodes null_root) os)) e)
      ]) is_kept,
  λ either. elim either [
    | inl e ↦ (unstored, ((λ t. false), (λ t. false), refl), e)
    | inr e ↦ (unstored ++ stored.act.op ∷ [], ((λ t. false), (λ t. true), refl), e)
  ],
)

pub node_after : LeavesTheNode (asked ∷ joined (2 ∷ []) ∷ stored ∷ fenced ∷ [])
unfolding first_world first_heap known_after_op canon_of found_from
node_after g = (
  λ (ops, (regions, singles, is_kept), leaves). leaves ∙ ap (λ os. canon_of (heap_after (first_heap nodes null_root) os)) is_kept,
  λ e. (unstored ++ stored.act.op ∷ fenced.act.op ∷ [], ((λ t. false), (λ t. false), refl), e),
)
