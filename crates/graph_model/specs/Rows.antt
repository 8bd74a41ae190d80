-- A small heap, numbered by hand. Object 2 refers to 1 and 4, object 1 to 3, object 3 back to 1, object 4 back to 2,
-- and object 0, which no root reaches, to 1. Depth first would number 3 before 4.
use Rattle.std.specs.Prelude.{true, pos, [], ◌∷◌, None}
use Rattle.ap_base.specs.declared.kind.Kind.TheVariants.{L}
use Rattle.graph_model.specs.declared.types.Value.{Value}
use Rattle.graph_model.specs.declared.types.Value.TheVariants.{Int, Null, Obj as Object}
use Rattle.graph_model.specs.declared.types.Shape.{Shape}
use Rattle.graph_model.specs.declared.types.Obj.{Obj}
use Rattle.graph_model.specs.declared.types.Heap.{Heap}
use Rattle.graph_model.specs.declared.types.Node.{Node}
use Rattle.graph_model.specs.declared.types.Graph.{Graph}

-- a class N with the fields a and b
abbrev pub pair_shape : Shape
pair_shape = record {
  name = 78 ∷ [];
  fields = record { name = 97 ∷ []; kind = L; kept = true }
      ∷ record { name = 98 ∷ []; kind = L; kept = true } ∷ [];
  element = None;
}

abbrev pub pair_of : Value → Value → Obj
pair_of a b = record { shape = 0; values = a ∷ b ∷ [] }

-- the root R is static 1
abbrev pub ring : Heap
ring = record {
  shapes = pair_shape ∷ [];
  objects = pair_of (Object 1) Null ∷ pair_of (Object 3) Null ∷ pair_of (Object 1) (Object 4)
      ∷ pair_of Null (Object 1) ∷ pair_of Null (Object 2) ∷ [];
  statics = Int (pos 7) ∷ Object 2 ∷ [];
  roots = record { name = 82 ∷ []; at = 1 } ∷ [];
}

abbrev pub pair_node : Value → Value → Node
pair_node a b = record { shape = pair_shape; values = a ∷ b ∷ [] }

abbrev pub ring_graph : Graph
ring_graph = record {
  roots = record { name = 82 ∷ []; value = Object 0 } ∷ [];
  nodes = pair_node (Object 1) (Object 2) ∷ pair_node (Object 3) Null ∷ pair_node Null (Object 0)
      ∷ pair_node Null (Object 1) ∷ [];
}
