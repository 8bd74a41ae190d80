use Rattle.std.proofs.Common.{◌≡◌, length}
use Rattle.std.specs.Prelude.{reverse}
use Rattle.graph_walks.proofs.Walks.{IsAcyclic}
use Rattle.graph_walks.proofs.Walking.{IsWalk, IsInOrder, work_left}
use Rattle.graph_walks.proofs.walk.Reached.from.Given as goal

abbrev pub invariant-loop-vertex : goal.invariant-loop-vertex
invariant-loop-vertex l = record {
  walk : IsWalk l.edges l.starts l.reached.reached (reverse l.pending.items);
  order : IsAcyclic l.edges → IsInOrder l.edges l.starts l.reached.reached (reverse l.pending.items);
  count : l.reached.count ≡ length l.edges;
}

abbrev pub decreases-loop-vertex : goal.decreases-loop-vertex
decreases-loop-vertex l = work_left l.edges l.reached.reached (reverse l.pending.items)
