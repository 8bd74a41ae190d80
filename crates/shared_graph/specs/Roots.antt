-- Roots that are added to graphs.
use Rattle.std.specs.Prelude.{[], ◌∷◌, ◌++◌}
use Rattle.graph_model.specs.declared.types.NamedValue.{NamedValue}
use Rattle.graph_model.specs.declared.types.Graph.{Graph}

abbrev pub with_root : Graph → NamedValue → Graph
with_root graph root = record graph { roots = graph.roots ++ root ∷ [] }
