use Rattle.std.proofs.Common.{◌≡◌, map, take}
use Rattle.graph_model.specs.Canon.{renumbered}
use Rattle.image_walk.proofs.found.FoundObjects.renumbered_each.Given as goal

abbrev pub invariant-loop-value : goal.invariant-loop-value
invariant-loop-value l = l.list.items ≡ map (renumbered l.self.numbers) (take l.value-index l.values)
