use Rattle.std.proofs.Common.{◌≡◌, ◌∙◌, ap, sym, subst}
use Rattle.graph_model.specs.declared.types.Graph.{Graph}
use Rattle.graph_model.specs.declared.types.Heap.{Heap}
use Rattle.plain_model.specs.First.{first_known}
use Rattle.class_set.specs.Facts.{facts_of}
use Rattle.audit_verdicts.specs.Picked.{kept_by}
use Rattle.audit_verdicts.specs.Verdicts.{graph_kept}
use Rattle.kept_lists.specs.Doubts.{marks_from}
use Rattle.kept_lists.specs.Fitting.{FitEach}
use Rattle.audit_runs.proofs.Ending.{graph-made, is-not, kept-fit}
use Rattle.audit_runs.proofs.Starting.{world-heap}
use Rattle.audit_runs.proofs.endings.judge_end.Goals as goal

pub returns-then-not-prints : goal.returns-then-not-prints
returns-then-not-prints c same = is-not c.prints.result c.prints.ensures c.if-not-prints.true same

pub kept_graph-requires : goal.kept_graph-requires
kept_graph-requires c =
    let first = first_known (facts_of c.args.set.now) c.args.opening.now in
    let d = c.args.doubts.now in
    let here = world-heap (facts_of c.args.set.now) c.args.opening.now ∙ sym c.in_ok-first.ensures.heap in
    record {
      sound = c.in_ok-first.ensures.sound;
      count = c.requires.doubts.doubts.count;
      threads = c.requires.doubts.doubts.threads;
      fit = subst (λ (h : Heap). FitEach h (kept_by c.args.keep (marks_from d.lasts.items 0 c.args.acts.now.acts d.doubts.items))) here
          (kept-fit first c.args.acts.now.acts d c.requires.doubts c.args.keep);
    }

pub returns-then-not-same_graph : goal.returns-then-not-same_graph
returns-then-not-same_graph c =
    let first = first_known (facts_of c.args.set.now) c.args.opening.now in
    let here = c.in_ok-first.ensures.heap ∙ sym (world-heap (facts_of c.args.set.now) c.args.opening.now) in
    let made = graph-made first c.args.acts.now.acts c.args.doubts.now c.requires.doubts c.args.keep c.in_ok-first.first here
    c.in_ok-graph.graph c.in_ok-graph.ensures.graph in (
      c.prints.ensures.0 c.if-not-prints.false,
      λ same. is-not c.same_graph.result c.same_graph.ensures c.if-not-same_graph.true (same ∙ sym made),
    )

pub returns : goal.returns
returns c =
    let first = first_known (facts_of c.args.set.now) c.args.opening.now in
    let here = c.in_ok-first.ensures.heap ∙ sym (world-heap (facts_of c.args.set.now) c.args.opening.now) in
    let made = graph-made first c.args.acts.now.acts c.args.doubts.now c.requires.doubts c.args.keep c.in_ok-first.first here
    c.in_ok-graph.graph c.in_ok-graph.ensures.graph in
    (c.prints.ensures.0 c.if-not-prints.false, c.same_graph.ensures.0 c.if-not-same_graph.false ∙ made)
