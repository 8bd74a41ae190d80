-- The names of the shapes so far.
use Rattle.std.proofs.Common.{map, take}
use Rattle.graph_model.specs.declared.types.Shape.{Shape}
use Rattle.directories.specs.Names.{HaveNames}
use Rattle.directories.proofs.names.shape_names.Given as goal

abbrev pub invariant-loop-shape : goal.invariant-loop-shape
invariant-loop-shape l = HaveNames l.names (map (λ (shape : Shape). shape.name) (take l.shape-index l.shapes))
