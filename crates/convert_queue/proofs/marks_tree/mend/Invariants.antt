use Rattle.std.proofs.Common.{◌<◌, length}
use Rattle.convert_queue.specs.Notes.{IsTreeBut}
use Rattle.convert_queue.proofs.marks_tree.mend.Given as goal

abbrev pub invariant-loop-n : goal.invariant-loop-n
invariant-loop-n l = record {
  below : l.n < length l.tree;
  but : IsTreeBut l.notes l.tree l.n;
}

abbrev pub decreases-loop-n : goal.decreases-loop-n
decreases-loop-n l = l.n
