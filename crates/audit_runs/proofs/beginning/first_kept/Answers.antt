use Rattle.std.proofs.Common.{◌≤◌, ◌∙◌, length, refl, ap, sym, subst}
use Rattle.graph_model.specs.declared.types.Heap.{Heap}
use Rattle.class_set.specs.Facts.{facts_of}
use Rattle.audit_acts.specs.declared.kept.Kept.{Kept}
use Rattle.audit_keeping.specs.Beginning.{first_lists}
use Rattle.audit_runs.proofs.Starting.{first-kept, nodes-there}
use Rattle.audit_runs.proofs.beginning.first_kept.Goals as goal

pub begin-requires : goal.begin-requires
begin-requires c = record {
  roots = c.in_ok-heap.ensures.sound.roots;
  there = subst (λ n. n ≤ length c.in_ok-heap.heap.objects) (sym c.len.ensures)
      (subst (λ (h : Heap). length c.args.opening.now.nodes ≤ length h.objects) (sym c.in_ok-heap.ensures.heap)
      (nodes-there (facts_of c.args.set.now) c.args.opening.now));
}

pub returns : goal.returns
returns c =
    let kept : Kept = record {
      heap = c.in_ok-heap.heap;
      keeping = c.in_ok-keeping.keeping;
      doubts = c.in_ok-doubts.doubts;
      at = 0;
    } in
    record {
      kept = first-kept (facts_of c.args.set.now) c.args.opening.now c.requires.opening c.keeping_begins.ensures kept
          c.in_ok-heap.ensures.heap c.in_ok-heap.ensures.sound
          (c.in_ok-keeping.ensures ∙ ap (λ n. first_lists c.in_ok-heap.heap n) c.len.ensures) c.in_ok-doubts.ensures.doubts
          c.in_ok-doubts.ensures.lasts refl;
    }
