use Rattle.std.proofs.Common.{◌-◌, length}
use Rattle.convert_queue.specs.Notes.{node_has}
use Rattle.convert_queue.proofs.TreeLemmas.{Descends}
use Rattle.convert_queue.proofs.marks_tree.least.Given as goal

abbrev pub invariant-loop-level : goal.invariant-loop-level
invariant-loop-level l = Descends (node_has l.notes l.tree l.t) (length l.tree) (l.levels - l.level) l.n
