-- The graph after the kept list, by the doubts.
use Rattle.std.proofs.Common.{◌≡◌, ℕ, Bool, true, false, Decides, List, length, ap, sym, subst, ◌∙◌}
use Rattle.graph_model.specs.declared.types.Graph.{Graph}
use Rattle.graph_model.specs.declared.types.Heap.{Heap}
use Rattle.graph_model.specs.Canon.{canon_of}
use Rattle.run_history.specs.Recorded.{Recorded}
use Rattle.run_history.specs.Knowing.{Knowledge, Mark}
use Rattle.run_history.specs.Worlds.{heap_after}
use Rattle.audit_verdicts.specs.Picked.{kept_by}
use Rattle.audit_verdicts.specs.Verdicts.{graph_kept}
use Rattle.kept_lists.specs.declared.doubts.Doubts.{Doubts}
use Rattle.kept_lists.specs.Doubts.{marks_from}
use Rattle.kept_lists.specs.Fitting.{FitEach}
use Rattle.kept_lists.proofs.Fits.{kept-lists-fit}
use Rattle.audit_runs.specs.Audits.{HasDoubts}

module _ (first : Knowledge) (acts : List Recorded) (d : Doubts) (h : HasDoubts first acts d) (keep : ℕ) where
  pub kept-fit : FitEach first.world.heap (kept_by keep (marks_from d.lasts.items 0 acts d.doubts.items))
  kept-fit = subst (λ (ms : List Mark). FitEach first.world.heap (kept_by keep ms)) h.doubts.marks
      (kept-lists-fit first acts d keep h.doubts h.stores h.fit)

  pub graph-is : graph_kept first acts keep
      ≡ canon_of (heap_after first.world.heap (kept_by keep (marks_from d.lasts.items 0 acts d.doubts.items)))
  graph-is = ap (λ (ms : List Mark). canon_of (heap_after first.world.heap (kept_by keep ms))) h.doubts.marks

  -- what is made of that heap is the graph
  pub graph-made : (heap : Heap) → heap ≡ first.world.heap → (graph : Graph)
      → graph ≡ canon_of (heap_after heap (kept_by keep (marks_from d.lasts.items 0 acts d.doubts.items)))
      → graph ≡ graph_kept first acts keep
  graph-made heap same graph made =
      made ∙ ap (λ (h : Heap). canon_of (heap_after h (kept_by keep (marks_from d.lasts.items 0 acts d.doubts.items)))) same ∙ sym graph-is

-- what a test denies isn't so
pub is-not : {P : Type 0} (b : Bool) → Decides b P → b ≡ false → P → ⊥
is-not b decides e p = let no : true ≡ false = sym (decides.1 p) ∙ e in cc
