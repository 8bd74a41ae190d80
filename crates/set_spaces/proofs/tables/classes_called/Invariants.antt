use Rattle.std.proofs.Common.{◌≡◌, map, take}
use Rattle.graph_model.specs.declared.types.Shape.{Shape}
use Rattle.plain_model.specs.Facts.{classes_of}
use Rattle.plain_model.specs.First.{class_named}
use Rattle.class_set.specs.Facts.{facts_of}
use Rattle.set_spaces.proofs.tables.classes_called.Given as goal

abbrev pub invariant-loop-shape : goal.invariant-loop-shape
invariant-loop-shape l =
    l.classes.items ≡ map (λ (s : Shape). class_named (classes_of (facts_of l.set)) s.name)
    (take l.shape-index l.shapes)
