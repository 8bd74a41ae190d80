-- A heap that holds a graph.
use Rattle.std.proofs.Common.{◌≡◌, ℕ, ◌+◌, ◌<◌, List, [], ◌∷◌, length, map, refl, ◌∙◌, ap, arith, slice_index_or}
use Rattle.std.specs.List.{range_with_len}
use Rattle.std.proofs.lemmas.List.{get_or-map}
use Rattle.std.proofs.lemmas.List.FromFn.{length-map-range_with_len, get_or-map-range_with_len}
use Rattle.graph_model.specs.declared.types.Value.TheVariants.{Null}
use Rattle.graph_model.specs.declared.types.Obj.{Obj}
use Rattle.graph_model.specs.declared.types.Root.{Root}
use Rattle.graph_model.specs.declared.types.NamedValue.{NamedValue}
use Rattle.graph_model.specs.declared.types.Node.{Node}
use Rattle.graph_model.specs.declared.types.Heap.{Heap}
use Rattle.graph_model.specs.declared.types.Graph.{Graph}
use Rattle.graph_model.specs.Heaps.{no_shape, no_object}
use Rattle.image_meaning.specs.Opening.{no_node, graph_node, HoldsGraph}
use Rattle.image_meaning.proofs.Ranges.{get_or_any, mapped_alike}

no_root : NamedValue
no_root = record { name = []; value = Null }

root_of_graph : Graph → ℕ → Root
root_of_graph graph r = record { name = (slice_index_or graph.roots r no_root).name; at = r }

object_of_graph : Graph → ℕ → Obj
object_of_graph graph n = record { shape = n; values = (graph_node graph n).values }

-- each node has a shape of its own, and each root a static
pub heap_of : Graph → Heap
heap_of graph = record {
  shapes = map (λ (node : Node). node.shape) graph.nodes;
  objects = map (object_of_graph graph) (range_with_len 0 (length graph.nodes));
  statics = map (λ (root : NamedValue). root.value) graph.roots;
  roots = map (root_of_graph graph) (range_with_len 0 (length graph.roots));
}

map_twice : {A B C : Type 0} (f : B → C) (g : A → B) (xs : List A) → map f (map g xs) ≡ map (λ x. f (g x)) xs
map_twice f g [] = refl
map_twice f g (x ∷ xs) = ap (λ rest. f (g x) ∷ rest) (map_twice f g xs)

pub object_count : (graph : Graph) → length (heap_of graph).objects ≡ length graph.nodes
unfolding heap_of object_of_graph
object_count graph = length-map-range_with_len (object_of_graph graph) 0 (length graph.nodes)

pub root_count : (graph : Graph) → length (heap_of graph).roots ≡ length graph.roots
unfolding heap_of root_of_graph
root_count graph = length-map-range_with_len (root_of_graph graph) 0 (length graph.roots)

pub heap_holds : (graph : Graph) → HoldsGraph (heap_of graph) graph
unfolding heap_of object_of_graph root_of_graph
heap_holds graph =
    let count : length (map (object_of_graph graph) (range_with_len 0 (length graph.nodes))) ≡ length graph.nodes =
    length-map-range_with_len (object_of_graph graph) 0 (length graph.nodes) in
    let object : (n : ℕ) → n < length graph.nodes
    → slice_index_or (map (object_of_graph graph) (range_with_len 0 (length graph.nodes))) n no_object ≡ object_of_graph graph n =
    λ n h. get_or-map-range_with_len (object_of_graph graph) 0 (length graph.nodes) n n no_object h (omega arith) in
    record {
      names =
          map_twice (λ (root : Root). root.name) (root_of_graph graph) (range_with_len 0 (length graph.roots))
          ∙ mapped_alike (λ r. (root_of_graph graph r).name) (λ (root : NamedValue). root.name) 0 graph.roots
          (λ j d h. let e : 0 + j ≡ j = omega arith in
          rw e (ap (λ (root : NamedValue). root.name) (get_or_any graph.roots j no_root d h)));
      values =
          map_twice (λ (root : Root). slice_index_or (heap_of graph).statics root.at Null) (root_of_graph graph) (range_with_len 0 (length graph.roots))
          ∙ mapped_alike (λ r. slice_index_or (map (λ (root : NamedValue). root.value) graph.roots) r Null) (λ (root : NamedValue). root.value) 0 graph.roots
          (λ j d h. let e : 0 + j ≡ j = omega arith in
          rw e (get_or-map (λ (root : NamedValue). root.value) graph.roots j d Null h));
      many = omega (arith, count);
      shapes = λ n h.
          ap (λ (o : Obj). slice_index_or (map (λ (node : Node). node.shape) graph.nodes) o.shape no_shape) (object n h)
          ∙ get_or-map (λ (node : Node). node.shape) graph.nodes n no_node no_shape h;
      slots = λ n h. ap (λ (o : Obj). o.values) (object n h);
    }
