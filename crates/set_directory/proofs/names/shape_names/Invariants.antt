-- The names of the shapes so far that a directory has, in order.
use Rattle.std.proofs.Common.{◌≡◌, filter, map, take}
use Rattle.graph_model.specs.declared.types.Shape.{Shape}
use Rattle.text_table.specs.Sorted.{sorted_texts}
use Rattle.set_directory.specs.Written.{has_shape}
use Rattle.set_directory.proofs.names.shape_names.Given as goal

abbrev pub invariant-loop-shape : goal.invariant-loop-shape
invariant-loop-shape l =
    l.names ≡ sorted_texts (filter (has_shape l.set) (map (λ (s : Shape). s.name) (take l.shape-index l.shape-items)))
