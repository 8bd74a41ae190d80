use Rattle.std.proofs.Common.{◌≡◌, ◌++◌, map, filter, take}
use Rattle.graph_model.specs.declared.types.Graph.{Graph}
use Rattle.plain_model.specs.Facts.{SetFacts}
use Rattle.plain_model.specs.First.{is_lacking}
use Rattle.first_heap.specs.Roots.{AreRootNames}
use Rattle.first_heap.proofs.Named.{value_in}
use Rattle.first_heap.proofs.roots.add_lacking.Given as goal

abbrev pub invariant-loop-root : goal.invariant-loop-root
invariant-loop-root l = (set : SetFacts) (opening : Graph) → AreRootNames set.statics l.own
    → l.values.items ≡ l.initial.values.items
    ++ map value_in (filter (is_lacking set opening) (take l.root-index l.roots))
