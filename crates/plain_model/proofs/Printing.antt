-- `println(7)`, act by act, and what a stop leaves of nested regions.
use Rattle.std.proofs.Common.{◌≡◌, ◌⊎◌, ℕ, true, false, List, [], ◌∷◌, ◌++◌, refl, ap, ◌∙◌, inl, inr, cond, arith}
use Rattle.std.specs.Prelude.{Option, Some, None}
use Rattle.std.proofs.lemmas.List.Elements.{All-nil, All-cons, All-head}
use Rattle.graph_model.specs.declared.types.Graph.{Graph}
use Rattle.graph_model.specs.Canon.{canon_of, found_from}
use Rattle.run_history.specs.declared.act.Op.{Op}
use Rattle.run_history.specs.declared.act.Op.TheVariants as op
use Rattle.run_history.specs.Knowing.{known_after_op}
use Rattle.run_history.specs.Worlds.{Thread, heap_after}
use Rattle.plain_model.specs.First.{first_world, first_heap}
use Rattle.plain_model.specs.Steps.{step}
use Rattle.plain_model.specs.Codes.{frames_after_op}
use Rattle.plain_model.specs.Runs.{IsPlainRun}
use Rattle.plain_model.specs.Laws.{ops_of}
use Rattle.plain_model.specs.StepWorld.{boxes, main_class, int}
use Rattle.plain_model.specs.RunRows.{two_boxes, box_graph, started, puts, begins, guards}
use Rattle.plain_model.specs.EndRows.{printing, printed, Prints7, RegionsCommitAtTheirEnd}
use Rattle.plain_model.proofs.RunParts.{◌▸◌, may}

abbrev HasEnded : Thread → Type 0
HasEnded thread = thread.ended ≡ true

abbrev at_its_end : Thread
at_its_end = record { object = None; depth = 0; ended = true; uncaught = None }

abbrev living : Thread
living = record { object = None; depth = 0; ended = false; uncaught = None }

printed_run : IsPlainRun boxes main_class two_boxes printing (printed (55 ∷ 10 ∷ []))
unfolding first_world first_heap known_after_op frames_after_op step
printed_run =
    may refl refl refl refl refl
    ▸ may refl refl refl refl refl
    ▸ may refl refl refl refl refl
    ▸ may refl refl refl refl refl
    ▸ may refl refl refl refl refl
    ▸ may refl refl refl refl refl
    ▸ may refl refl refl refl refl
    ▸ may refl refl refl refl refl
    ▸ tt

nothing_refused : IsPlainRun boxes main_class two_boxes printing (printed []) → ⊥
unfolding first_world first_heap known_after_op frames_after_op step
nothing_refused run = let no : ◌≡◌ {A = Option Op} None (Some (op.Print [])) = run.1.1.1.1.1.0.rule in cc

another_refused : IsPlainRun boxes main_class two_boxes printing (printed (56 ∷ 10 ∷ [])) → ⊥
unfolding first_world first_heap known_after_op frames_after_op step
another_refused run =
    let no : ◌≡◌ {A = Option Op} (Some (op.Print (55 ∷ 10 ∷ []))) (Some (op.Print (56 ∷ 10 ∷ []))) =
    run.1.1.1.1.1.0.rule in
    let same : ◌≡◌ {A = List ℕ} (55 ∷ 10 ∷ []) (56 ∷ 10 ∷ []) = cc in
    let digit : ◌≡◌ {A = ℕ} 55 56 = cc in
    absurd (omega arith)

pub prints_7 : Prints7
unfolding first_world first_heap known_after_op frames_after_op step
prints_7 = record {
  run = printed_run;
  output = refl;
  ends = (All-cons HasEnded at_its_end [] refl (All-nil HasEnded), refl);
  unended = λ ended. let no : false ≡ true = All-head HasEnded living [] ended.0 in cc;
  nothing = nothing_refused;
  another_digit = another_refused;
}

-- the operations up to the store of the region, and those after it
abbrev until_store : List Op
until_store = ops_of (started ++ begins 0 ∷ begins 0 ∷ guards 0 0 ∷ [])

abbrev left : List Op → Graph
left ops = canon_of (heap_after (first_heap boxes two_boxes) ops)

inner_leaves : RegionsCommitAtTheirEnd
unfolding first_world first_heap known_after_op canon_of found_from
inner_leaves = record {
  inner = λ g. (
    λ (ops, (regions, singles, is_kept), leaves). leaves ∙ ap left is_kept,
    λ e. (until_store ++ op.End ∷ [], ((λ t. false), (λ t. false), refl), e),
  );
  closing = λ g. (
    λ (ops, (regions, singles, is_kept), leaves).
        (elim (regions 0) as (λ b. ops ≡ until_store ++ cond b ((puts 0 0 7).act.op ∷ op.End ∷ op.Closing
        ∷ [])
        (op.End ∷ op.Closing ∷ []) → (g ≡ two_boxes) ⊎ (g ≡ box_graph (int 7))) [
          | true ↦ λ e. inr (leaves ∙ ap left e)
          | false ↦ λ e. inl (leaves ∙ ap left e)
        ]) is_kept,
    λ either. elim either [
      | inl e ↦ (until_store ++ op.End ∷ op.Closing ∷ [], ((λ t. false), (λ t. false), refl), e)
      | inr e ↦ (
        until_store ++ (puts 0 0 7).act.op ∷ op.End ∷ op.Closing
            ∷ [],
        ((λ t. true), (λ t. false), refl),
        e,
      )
    ],
  );
  ended = λ g. (
    λ (ops, (regions, singles, is_kept), leaves). leaves ∙ ap left is_kept,
    λ e. (
      until_store ++ (puts 0 0 7).act.op ∷ op.End ∷ op.Closing ∷ op.End ∷ [],
      ((λ t. false), (λ t. false), refl),
      e,
    ),
  );
}

pub regions_commit : RegionsCommitAtTheirEnd
regions_commit = inner_leaves
