use Rattle.std.proofs.Common.{arith, ◌∙◌}
use Rattle.std.proofs.lemmas.List.{length-set}
use Rattle.convert_queue.proofs.Sets.{or_same}
use Rattle.convert_queue.proofs.TreeLemmas.{mended, whole}
use Rattle.convert_queue.proofs.marks_tree.mend.Goals as goal

pub returns : goal.returns
returns c = record { tree = whole c.args.notes.now c.loop-n.tree c.loop-n.n (omega arith) c.loop-n.invariant.but }

pub loop-n-preserved : goal.loop-n-preserved
loop-n-preserved c =
    let notes = c.args.notes.now in
    let tree = c.loop-n.tree in
    let n = c.loop-n.n in
    let x = c.union.result in
    record {
      below = omega (arith, length-set tree n x);
      but = mended notes tree n x c.loop-n-test.true c.loop-n.invariant.below c.loop-n.invariant.but
          (λ t. c.union.ensures.both t ∙ or_same _ _ _ _ (c.threads_at-left.ensures.threads t) (c.threads_at-right.ensures.threads t));
    }
