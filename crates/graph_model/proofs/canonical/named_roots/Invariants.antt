use Rattle.std.proofs.Common.{◌≡◌, map, take}
use Rattle.graph_model.specs.Canon.{root_of}
use Rattle.graph_model.proofs.canonical.named_roots.Given as goal

abbrev pub invariant-loop-root : goal.invariant-loop-root
invariant-loop-root l = l.roots.items ≡ map (root_of l.heap l.numbering.numbers) (take l.root-index l.heap.roots)
