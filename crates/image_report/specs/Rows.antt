-- Worked texts. The empty graph is that of a blank image; the ring is three nodes of a list, whose last leads back to the first.
use Rattle.std.specs.Prelude.{◌≡◌, ℕ, pos, negsuc, true, List, [], ◌∷◌, ◌++◌, Some, None, codes}
use Rattle.ap_base.specs.declared.kind.Kind.TheVariants.{I, J, L}
use Rattle.graph_model.specs.declared.types.Value.{Value}
use Rattle.graph_model.specs.declared.types.Value.TheVariants.{Int, Long, Null, Obj}
use Rattle.graph_model.specs.declared.types.Shape.{Shape}
use Rattle.graph_model.specs.declared.types.Node.{Node}
use Rattle.graph_model.specs.declared.types.Graph.{Graph}
use Rattle.image_report.specs.Texts.{check_line, dump_lines}

abbrev pub nothing : Graph
nothing = record { roots = []; nodes = [] }

abbrev pub node_shape : Shape
node_shape = record {
  name = codes "Node";
  fields = record { name = codes "v"; kind = I; kept = true } ∷ record { name = codes "next"; kind = L; kept = true } ∷ [];
  element = None;
}

abbrev pub node_of : (v next : ℕ) → Node
node_of v next = record { shape = node_shape; values = Int (pos v) ∷ Obj next ∷ [] }

-- the durable root `Main.head` refers to the first of three nodes
abbrev pub ring : Graph
ring = record {
  roots = record { name = codes "Main.head"; value = Obj 0 } ∷ [];
  nodes = node_of 1 1 ∷ node_of 2 2 ∷ node_of 3 0 ∷ [];
}

-- a root that is null, and one of an array of longs
abbrev pub longs : Graph
longs = record {
  roots = record { name = codes "A.n"; value = Null } ∷ record { name = codes "A.l"; value = Obj 0 } ∷ [];
  nodes = record {
    shape = record { name = codes "[J"; fields = []; element = Some J };
    values = Long (negsuc 0) ∷ Long (pos 4294967296) ∷ [];
  } ∷ [];
}

pub record TextsAreThese : Type 0 where
  pub empty_check : check_line 1 32768 20577 0 0 0 ≡ codes "version 1 lines 32768 free 20577 roots 0 nodes 0 undone 0\n"
  pub empty_dump : dump_lines nothing ≡ codes "roots 0 nodes 0\n"
  pub ring_check : check_line 1 32768 20580 1 3 0 ≡ codes "version 1 lines 32768 free 20580 roots 1 nodes 3 undone 0\n"
  pub ring_dump : dump_lines ring ≡ codes "roots 1 nodes 3\nroot 0 Main.head #0\nnode #0 Node 2\nv = 1\nnext = #1\n"
      ++ codes "node #1 Node 2\nv = 2\nnext = #2\nnode #2 Node 2\nv = 3\nnext = #0\n"
  pub longs_dump : dump_lines longs
      ≡ codes "roots 2 nodes 1\nroot 0 A.n null\nroot 1 A.l #0\nnode #0 [J 2\n[0] = -1\n[1] = 4294967296\n"
