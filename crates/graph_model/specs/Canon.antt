-- The canonical graph of a heap: what its durable roots reach, numbered breadth first, roots in directory order,
-- slots in order, each object once.
use Rattle.std.specs.Prelude.{ℕ, zero, suc, List, [], ◌∷◌, ◌++◌, map, length, nat_eq, slice_index_or, if◌then◌else◌}
use Rattle.graph_model.specs.declared.types.Value.{Value}
use Rattle.graph_model.specs.declared.types.Value.TheVariants.{Int, Long, Null, Obj as Object}
use Rattle.graph_model.specs.declared.types.Root.{Root}
use Rattle.graph_model.specs.declared.types.Heap.{Heap}
use Rattle.graph_model.specs.declared.types.NamedValue.{NamedValue}
use Rattle.graph_model.specs.declared.types.Node.{Node}
use Rattle.graph_model.specs.declared.types.Graph.{Graph}
use Rattle.graph_model.specs.Heaps.{has_number, object_at, kept_values_of, shape_at, root_values}

abbrev pub with_number : List ℕ → ℕ → List ℕ
with_number found n = if has_number found n then found else found ++ n ∷ []

-- the found objects, and then those among the values that are new, in order
abbrev pub with_new : List ℕ → List Value → List ℕ
with_new found [] = found
with_new found (Object n ∷ values) = with_new (with_number found n) values
with_new found (Int i ∷ values) = with_new found values
with_new found (Long i ∷ values) = with_new found values
with_new found (Null ∷ values) = with_new found values

-- what is found once the slots of the k-th found object were looked at too
abbrev pub with_slots_of : Heap → ℕ → List ℕ → List ℕ
with_slots_of heap k found = with_new found (kept_values_of heap (slice_index_or found k (length heap.objects)))

-- what is found from these values once the slots of the first k found objects were looked at
abbrev pub found_after : Heap → List Value → ℕ → List ℕ
found_after heap start zero = with_new [] start
found_after heap start (suc k) = with_slots_of heap k (found_after heap start k)

-- All that is found from these values, breadth first: no more objects are found than there are.
unfoldable pub found_from : Heap → List Value → List ℕ
found_from heap start = found_after heap start (length heap.objects)

-- the place of a number in the list
abbrev pub place_in : List ℕ → ℕ → ℕ
place_in [] n = 0
place_in (m ∷ ms) n = if nat_eq m n then 0 else suc (place_in ms n)

abbrev pub renumbered : List ℕ → Value → Value
renumbered found (Object n) = Object (place_in found n)
renumbered found (Int i) = Int i
renumbered found (Long i) = Long i
renumbered found Null = Null

abbrev pub node_of : Heap → List ℕ → ℕ → Node
node_of heap found n = record {
  shape = shape_at heap (object_at heap n).shape;
  values = map (renumbered found) (kept_values_of heap n);
}

abbrev pub root_of : Heap → List ℕ → Root → NamedValue
root_of heap found r =
    record { name = r.name; value = renumbered found (slice_index_or heap.statics r.at Null) }

abbrev pub graph_by : Heap → List ℕ → Graph
graph_by heap found = record {
  roots = map (root_of heap found) heap.roots;
  nodes = map (node_of heap found) found;
}

-- The graph that a heap stands for.
unfoldable pub canon_of : Heap → Graph
canon_of heap = graph_by heap (found_from heap (root_values heap))
