-- The first heap of a class set holds its opening graph.
use Rattle.std.proofs.Common.{◌≡◌, ℕ, suc, ◌+◌, ◌<◌, ◌≤◌, List, [], ◌∷◌, map, length, refl, ap, sym, ◌∙◌, arith, slice_index_or}
use Rattle.std.proofs.Common.{length-append}
use Rattle.std.specs.Prelude.{Some, None}
use Rattle.std.proofs.lemmas.List.{get_or-map, length-map}
use Rattle.std.proofs.lemmas.List.Elements.{All-get_or}
use Rattle.graph_model.specs.declared.types.Obj.{Obj}
use Rattle.graph_model.specs.declared.types.Root.{Root}
use Rattle.graph_model.specs.declared.types.Node.{Node}
use Rattle.graph_model.specs.declared.types.NamedValue.{NamedValue}
use Rattle.graph_model.specs.declared.types.Graph.{Graph}
use Rattle.graph_model.specs.Heaps.{no_shape, object_at, shape_at, root_values}
use Rattle.image_meaning.specs.Opening.{HoldsGraph, no_node}
use Rattle.plain_model.specs.Classes.{ClassFacts, no_class}
use Rattle.plain_model.specs.Facts.{SetFacts, classes_of, class_at, stream_class, arguments_class}
use Rattle.plain_model.specs.First.{IsOpening, class_named, first_heap, node_object, literal_object, root_static, roots_from}
use Rattle.plain_model.proofs.OwnGraph.{object_is_node}
use Rattle.plain_model.proofs.RootsRead.{reading, roots_read}

module _ (set : SetFacts) (opening : Graph) (is : IsOpening set opening) where
  root_names : (count : ℕ) (rs : List NamedValue)
      → map (λ (root : Root). root.name) (roots_from set opening count rs) ≡ map (λ (r : NamedValue). r.name)
      rs
  root_names count [] = refl
  root_names count (r ∷ rs) =
      elim (root_static set.statics r.name) as (λ found. map (λ (root : Root). root.name) (elim found [
        | None ↦ record { name = r.name; at = suc (length set.statics) + count } ∷ roots_from set opening (suc
            count) rs
        | Some k ↦ record { name = r.name; at = suc k } ∷ roots_from set opening count rs
      ]) ≡ r.name ∷ map (λ (x : NamedValue). x.name) rs) [
        | None ↦ ap (λ names. r.name ∷ names) (root_names (suc count) rs)
        | Some k ↦ ap (λ names. r.name ∷ names) (root_names count rs)
      ]

  reads : (roots : List Root) → map (λ (r : NamedValue). r.value) (map (reading set opening is) roots)
      ≡ map (λ (r : Root). (reading set opening is r).value) roots
  reads [] = refl
  reads (r ∷ rs) = ap (λ vs. (reading set opening is r).value ∷ vs) (reads rs)

  roots_hold : root_values (first_heap set opening) ≡ map (λ (r : NamedValue). r.value) opening.roots
  unfolding first_heap
  roots_hold =
      sym (reads (roots_from set opening 0 opening.roots))
      ∙ ap (map (λ (r : NamedValue). r.value)) (roots_read set opening is opening.roots [] 0 refl refl)

  many : length opening.nodes ≤ length (first_heap set opening).objects
  unfolding first_heap
  many =
      let nodes = map (node_object set opening) opening.nodes in
      let others : List Obj = record { shape = stream_class set; values = [] } ∷ record {
        shape =
            arguments_class set;
        values = [];
      }
      ∷ map (literal_object set opening) set.literals in
      let long = length-append nodes others in
      let count = length-map opening.nodes (node_object set opening) in
      omega (arith, long, count)

  class_shape : (c : ℕ) → c < length (classes_of set) → shape_at (first_heap set opening) c ≡ (class_at set
      c).shape
  unfolding first_heap
  class_shape c below = get_or-map (λ (x : ClassFacts). x.shape) (classes_of set) c no_class no_shape below

  node_shape : (n : ℕ) → n < length opening.nodes
      → shape_at (first_heap set opening) (object_at (first_heap set opening) n).shape ≡ (slice_index_or
      opening.nodes n no_node).shape
  node_shape n below =
      let node : Node = slice_index_or opening.nodes n no_node in
      let there = All-get_or (λ (x : Node). class_named (classes_of set) x.shape.name < length (classes_of
      set)) opening.nodes n no_node below is.shapes in
      ap (λ (o : Obj). shape_at (first_heap set opening) o.shape) (object_is_node set opening is n below)
      ∙ class_shape (class_named (classes_of set) node.shape.name) there
      ∙ All-get_or (λ (x : Node). (class_at set (class_named (classes_of set) x.shape.name)).shape ≡ x.shape)
      opening.nodes n no_node below is.agree

  named : map (λ (root : Root). root.name) (first_heap set opening).roots ≡ map (λ (root : NamedValue).
      root.name) opening.roots
  unfolding first_heap
  named = root_names 0 opening.roots

  pub first_holds_it : HoldsGraph (first_heap set opening) opening
  first_holds_it = record {
    names = named;
    values = roots_hold;
    many = many;
    shapes = node_shape;
    slots = λ n below. ap (λ (o : Obj). o.values) (object_is_node set opening is n below);
  }

pub first_holds : (set : SetFacts) (opening : Graph) → IsOpening set opening → HoldsGraph (first_heap set
    opening) opening
first_holds set opening is = first_holds_it set opening is
