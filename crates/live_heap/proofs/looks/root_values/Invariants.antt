use Rattle.std.proofs.Common.{◌≡◌, map, take, slice_index_or}
use Rattle.graph_model.specs.declared.types.Root.{Root}
use Rattle.graph_model.specs.declared.types.Value.TheVariants.{Null}
use Rattle.live_heap.proofs.looks.root_values.Given as goal

abbrev pub invariant-loop-root : goal.invariant-loop-root
invariant-loop-root l = l.values.items ≡ map (λ (r : Root). slice_index_or l.heap.statics r.at Null) (take l.root-index l.heap.roots)
