use Rattle.std.proofs.Common.{◌≡◌, ◌∙◌, ◌+◌, ◌≤◌, suc, ℕ, None, drop, get_or, length, ap, subst, sym, arith}
use Rattle.std.specs.Option.{option_copied}
use Rattle.graph_model.specs.declared.types.Heap.{Heap}
use Rattle.run_history.specs.declared.act.Act.{Act}
use Rattle.run_history.specs.Worlds.{heap_after, heap_after_op}
use Rattle.run_history.specs.Knowing.{Mark}
use Rattle.std.specs.Prelude.{List, []}
use Rattle.audit_verdicts.specs.Picked.{kept_by}
use Rattle.kept_lists.specs.declared.doubts.Doubt.TheVariants as doubt
use Rattle.kept_lists.specs.Doubts.{marks_from}
use Rattle.kept_lists.specs.Fitting.{FitEach}
use Rattle.kept_lists.proofs.Doing.{drop-past, kept-no, kept-yes, mark_at, marks-drop, marks-length, no-act}
use Rattle.kept_lists.proofs.heaps.do_kept.Goals.{in-Some+then-keeps+in_ok-do_op, in-Some+else-keeps, in_default}
use Rattle.kept_lists.proofs.heaps.do_kept.Goals as goal

pub do_op-requires : goal.do_op-requires
do_op-requires c =
    let lasts = c.args.doubts.now.lasts.items in
    let ds = c.args.doubts.now.doubts.items in
    let marks = marks_from lasts 0 c.args.acts.now.acts ds in
    let i = c.acts.i in
    let a = c.in-Some.act.now in
    let is = marks-drop lasts 0 i i c.args.acts.now.acts ds a (sym c.in-Some.ensures.act) c.requires.count (omega arith) in
    record {
      fits = (kept-yes c.args.keep (drop i marks) (mark_at lasts a i (get_or ds i doubt.Never)) (drop (suc i) marks) c.acts.heap
          (heap_after c.args.heap.now (kept_by c.args.keep marks)) is (sym c.keeps.ensures ∙ c.if-keeps.true) c.acts.invariant.1 c.acts.invariant.2).0;
    }

pub acts-preserved : goal.acts-preserved
acts-preserved c =
    let lasts = c.args.doubts.now.lasts.items in
    let ds = c.args.doubts.now.doubts.items in
    let acts = c.args.acts.now.acts in
    let marks = marks_from lasts 0 acts ds in
    let i = c.acts.i in
    let after = heap_after c.args.heap.now (kept_by c.args.keep marks) in
    let t = c.acts-test.true in
    let l = c.len.ensures.len in
    let next : suc i ≡ i + 1 = omega arith in
    elim c.match-get.branch [
      | in-Some+then-keeps+in_ok-do_op w ↦
          let a = w.in-Some.act.now in
          let is = marks-drop lasts 0 i i acts ds a (sym w.in-Some.ensures.act) c.requires.count (omega arith) in
          let y = kept-yes c.args.keep (drop i marks) (mark_at lasts a i (get_or ds i doubt.Never)) (drop (suc i) marks) c.acts.heap after is
          (sym w.keeps.ensures ∙ w.if-keeps.true) c.acts.invariant.1 c.acts.invariant.2 in
          let p = subst (λ (n : ℕ). FitEach (heap_after_op c.acts.heap a.op) (kept_by c.args.keep (drop n marks))
          × (heap_after (heap_after_op c.acts.heap a.op) (kept_by c.args.keep (drop n marks)) ≡ after)) next (y.1, y.2) in
          let q = subst (λ (h : Heap). FitEach h (kept_by c.args.keep (drop (i + 1) marks))
          × (heap_after h (kept_by c.args.keep (drop (i + 1) marks)) ≡ after)) (sym (w.heap-is ∙ w.in_ok-do_op.ensures)) p in
          (omega (arith, t, l), q.0, q.1)
      | in-Some+else-keeps w ↦
          let a = w.in-Some.act.now in
          let is = marks-drop lasts 0 i i acts ds a (sym w.in-Some.ensures.act) c.requires.count (omega arith) in
          let n = kept-no c.args.keep (drop i marks) (mark_at lasts a i (get_or ds i doubt.Never)) (drop (suc i) marks) c.acts.heap after is
          (sym w.keeps.ensures ∙ w.if-keeps.false) c.acts.invariant.1 c.acts.invariant.2 in
          let p = subst (λ (k : ℕ). FitEach c.acts.heap (kept_by c.args.keep (drop k marks))
          × (heap_after c.acts.heap (kept_by c.args.keep (drop k marks)) ≡ after)) next n in
          let q = subst (λ (h : Heap). FitEach h (kept_by c.args.keep (drop (i + 1) marks))
          × (heap_after h (kept_by c.args.keep (drop (i + 1) marks)) ≡ after)) (sym w.heap-is) p in
          (omega (arith, t, l), q.0, q.1)
      | in_default w ↦ absurd (no-act acts i (sym c.get.ensures.act ∙ ap option_copied w.in_default.is) (omega (arith, t, l)))
    ]

pub returns : goal.returns
returns c =
    let lasts = c.args.doubts.now.lasts.items in
    let ds = c.args.doubts.now.doubts.items in
    let acts = c.args.acts.now.acts in
    let marks = marks_from lasts 0 acts ds in
    let t = c.acts-test.false in
    let l = c.len.ensures.len in
    let long = marks-length lasts 0 acts ds c.requires.count in
    let none : drop c.acts.i marks ≡ [] = drop-past marks c.acts.i (omega (arith, t, l, long)) in
    sym (ap (λ (ms : List Mark). heap_after c.acts.heap (kept_by c.args.keep ms)) none) ∙ c.acts.invariant.2
