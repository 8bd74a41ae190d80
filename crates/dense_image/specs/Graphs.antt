-- Graphs that an image can hold, whatever its size (Shull, Huang and Torrellas, "AutoPersist", PLDI 2019, for durable roots; values are those of
-- JVMS 2.3 and 2.4). Of this project's own format.
use Rattle.std.specs.Prelude.{◌≡◌, ◌<◌, ℕ, true, length, map, slice_index_or}
use Rattle.ap_base.specs.declared.kind.Kind.{Kind}
use Rattle.ap_base.specs.declared.kind.Kind.TheVariants.{L}
use Rattle.graph_model.specs.declared.types.Value.{Value}
use Rattle.graph_model.specs.declared.types.Value.TheVariants.{Int, Long, Null, Obj as Object}
use Rattle.graph_model.specs.declared.types.NamedValue.{NamedValue}
use Rattle.graph_model.specs.declared.types.Node.{Node}
use Rattle.graph_model.specs.declared.types.Graph.{Graph}
use Rattle.graph_model.specs.declared.types.Heap.{Heap}
use Rattle.graph_model.specs.Canon.{canon_of}
use Rattle.image_meaning.specs.Entries.{DirectoryEntry, RootEntry, IsShape}
use Rattle.image_meaning.specs.Directories.{no_entries, AreEntries}
use Rattle.image_meaning.specs.Objects.{kind_of, holds_slots}
use Rattle.image_meaning.specs.Spelling.{IsNumber}
use Rattle.image_meaning.specs.Opening.{graph_node, HoldsGraph}

-- null, or one of so many nodes
abbrev pub IsReference : ℕ → Value → Type 0
IsReference nodes Null = Unit {0}
IsReference nodes (Object n) = n < nodes
IsReference nodes (Int i) = ⊥
IsReference nodes (Long i) = ⊥

-- what a slot of this kind can hold, where there are so many nodes
abbrev pub CanHold : ℕ → Kind → Value → Type 0
CanHold nodes L value = IsReference nodes value
CanHold nodes kind value = IsNumber kind value

-- One of so many nodes: its shape is one that a directory can have, it has a slot for each field, and each slot holds what its kind can.
pub record IsNode (nodes : ℕ) (node : Node) : Type 0 where
  pub shape : IsShape node.shape
  pub full : holds_slots node.shape.element node.shape.fields (length node.values) ≡ true
  pub slots : (i : ℕ) → i < length node.values → CanHold nodes (kind_of node.shape i) (slice_index_or node.values i Null)

-- the graph is that of each heap that holds it: what its roots reach, numbered breadth first
abbrev pub IsCanonical : Graph → Type 0
IsCanonical graph = (heap : Heap) → HoldsGraph heap graph → canon_of heap ≡ graph

abbrev pub root_entry : NamedValue → DirectoryEntry
root_entry root = RootEntry root.name

-- what the r-th root holds
abbrev pub root_value_of : Graph → ℕ → Value
root_value_of graph r = slice_index_or (map (λ (root : NamedValue). root.value) graph.roots) r Null

-- A canonical graph that an image can stand for, its size aside: no more roots than slots, no two of one name, that are null or refer to
-- nodes; and nodes of which two with one name have one shape.
pub record CanBeStoodFor (graph : Graph) : Type 0 where
  pub canonical : IsCanonical graph
  pub names : AreEntries no_entries (map root_entry graph.roots)
  pub roots : (r : ℕ) → r < length graph.roots → IsReference (length graph.nodes) (root_value_of graph r)
  pub nodes : (n : ℕ) → n < length graph.nodes → IsNode (length graph.nodes) (graph_node graph n)
  pub one_shape : (m n : ℕ) → m < length graph.nodes → n < length graph.nodes
      → (graph_node graph m).shape.name ≡ (graph_node graph n).shape.name → (graph_node graph m).shape ≡ (graph_node graph n).shape
