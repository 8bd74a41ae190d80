use Rattle.graph_model.proofs.FoundAfter.{root_values-below}
use Rattle.live_heap.proofs.live.Live.look.Goals as goal

pub count_reached-requires-clause-start : goal.count_reached-requires-clause-start
count_reached-requires-clause-start c =
    rw (c.as_slice.ensures.value, c.in_ok-held.ensures.values) (root_values-below c.self.inside.heap c.self.invariant.sound)
