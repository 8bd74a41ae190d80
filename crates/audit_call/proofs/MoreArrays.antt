-- Numbering more array types leaves each class at its number: a graph with which a run of a set can begin, one can begin with still.
use Rattle.std.proofs.Common.{◌≡◌, ℕ, suc, ◌<◌, ◌+◌, true, false, List, [], ◌∷◌, ◌++◌, length, map, slice_index_or}
use Rattle.std.proofs.Common.{if◌then◌else◌, refl, sym, ap, ◌∙◌, subst, arith}
use Rattle.std.specs.Option.{is_some}
use Rattle.std.proofs.lemmas.List.{append_assoc, get_or_append_left, length-append, length-map, map-append}
use Rattle.graph_model.specs.declared.types.Graph.{Graph}
use Rattle.graph_model.specs.declared.types.Node.{Node}
use Rattle.graph_model.specs.declared.types.Shape.{Shape}
use Rattle.plain_model.specs.BuiltIn.{array_class, built_in_classes}
use Rattle.plain_model.specs.Classes.{ArrayType, ClassFacts, no_class}
use Rattle.plain_model.specs.Facts.{SetFacts, arguments_class, class_at, classes_of, stream_class}
use Rattle.plain_model.specs.First.{IsOpening, class_named, first_objects, literal_object, name_is, node_object}
use Rattle.plain_model.specs.Kinds.{AreOf}
use Rattle.image_meaning.specs.Entries.{is_array_name}
use Rattle.class_set.specs.ArrayTypes.{array_type}
use Rattle.class_set.specs.Facts.{facts_of}
use Rattle.class_set.specs.Linked.{Linked, class_named as number_of, with_array}
use Rattle.set_opening.specs.Arrays.{with_array_of, with_arrays_of}

-- ---- a class by its name, among more

named_still : (classes more : List ClassFacts) (name : List ℕ) → class_named classes name < length classes
    → class_named (classes ++ more) name ≡ class_named classes name
named_still [] more name below = absurd (omega (arith, below))
named_still (c ∷ classes) more name below =
    elim (name_is c.shape.name name) as (λ b. (if b then 0 else suc (class_named classes name)) < suc (length classes)
    → (if b then 0 else suc (class_named (classes ++ more) name)) ≡ (if b then 0 else suc (class_named classes name))) [
      | true ↦ λ lt. refl
      | false ↦ λ lt. ap suc (named_still classes more name (omega (arith, lt)))
    ] below

-- ---- how many objects there are first

objects_many : (set : SetFacts) (graph : Graph)
    → length (first_objects set graph) ≡ length graph.nodes + (2 + length set.literals)
objects_many set graph =
    let nodes = length-map graph.nodes (node_object set graph) in
    let literals = length-map set.literals (literal_object set graph) in
    let all = length-append (map (node_object set graph) graph.nodes)
    (record { shape = stream_class set; values = [] } ∷ record { shape = arguments_class set; values = [] }
    ∷ map (literal_object set graph) set.literals) in
    omega (arith, nodes, literals, all)

-- ---- more array types

module _ (set : SetFacts) (more : List ArrayType) where
  abbrev pub with_more : SetFacts
  with_more = record set { arrays = set.arrays ++ more }

  abbrev behind : List ClassFacts
  behind = map (array_class (length set.program)) more

  classes_more : classes_of with_more ≡ classes_of set ++ behind
  classes_more =
      let make = array_class (length set.program) in
      let front = set.program ++ built_in_classes (length set.program) in
      ap (λ (cs : List ClassFacts). front ++ cs) (map-append make set.arrays more)
      ∙ sym (append_assoc front (map make set.arrays) behind)

  module _ (name : List ℕ) (there : class_named (classes_of set) name < length (classes_of set)) where
    same_number : class_named (classes_of with_more) name ≡ class_named (classes_of set) name
    same_number =
        ap (λ (cs : List ClassFacts). class_named cs name) classes_more ∙ named_still (classes_of set) behind name there

    still_there : class_named (classes_of with_more) name < length (classes_of with_more)
    still_there =
        let many = ap (λ (cs : List ClassFacts). length cs) classes_more in
        let all = length-append (classes_of set) behind in
        omega (arith, same_number, many, all, there)

    same_class : class_at with_more (class_named (classes_of with_more) name) ≡ class_at set (class_named (classes_of set) name)
    same_class =
        ap (λ (n : ℕ). class_at with_more n) same_number
        ∙ ap (λ (cs : List ClassFacts). slice_index_or cs (class_named (classes_of set) name) no_class) classes_more
        ∙ get_or_append_left (classes_of set) behind no_class (class_named (classes_of set) name) there

  pub opens_more : (graph : Graph) → IsOpening set graph → IsOpening with_more graph
  opens_more graph is = record {
    shapes = λ k d below. still_there (slice_index_or graph.nodes k d).shape.name (is.shapes k d below);
    agree = λ k d below.
        let node : Node = slice_index_or graph.nodes k d in
        ap (λ (c : ClassFacts). c.shape) (same_class node.shape.name (is.shapes k d below)) ∙ is.agree k d below;
    values = λ k d below.
        let node : Node = slice_index_or graph.nodes k d in
        subst (λ (c : ClassFacts). AreOf c.shape.element c.shape.fields node.values)
        (sym (same_class node.shape.name (is.shapes k d below))) (is.values k d below);
    has_roots = is.has_roots;
    names_differ = is.names_differ;
    references = is.references;
    in_roots = is.in_roots;
    in_nodes = is.in_nodes;
    few = let few = is.few in omega (arith, few, objects_many set graph, objects_many with_more graph);
  }

-- ---- a class set

one_more : (set : Linked) (text : List ℕ) (graph : Graph) → IsOpening (facts_of set) graph
    → IsOpening (facts_of (record { files = set.files; arrays = set.arrays ++ text ∷ [] })) graph
one_more set text graph is =
    let types : List ArrayType = map (array_type set.files) (text ∷ []) in
    subst (λ (arrays : List ArrayType). IsOpening (record (facts_of set) { arrays = arrays }) graph)
    (sym (map-append (array_type set.files) set.arrays (text ∷ []))) (opens_more (facts_of set) types graph is)

with_one : (set : Linked) (text : List ℕ) (graph : Graph) → IsOpening (facts_of set) graph → IsOpening (facts_of (with_array set text)) graph
with_one set text graph is =
    elim (is_some (number_of set text)) as (λ b. IsOpening (facts_of (if b then set else (let more : Linked = record {
      files = set.files;
      arrays =
          set.arrays ++ text ∷ [];
    } in more))) graph) [
      | true ↦ is
      | false ↦ one_more set text graph is
    ]

with_shape : (set : Linked) (shape : Shape) (graph : Graph) → IsOpening (facts_of set) graph → IsOpening (facts_of (with_array_of set shape)) graph
with_shape set shape graph is =
    elim (is_array_name shape.name)
    as (λ b. IsOpening (facts_of (if b then with_array set shape.name else set)) graph) [
      | true ↦ with_one set shape.name graph is
      | false ↦ is
    ]

-- a set that got numbers for the array types among these shapes
pub opens_still : (set : Linked) (shapes : List Shape) (graph : Graph) → IsOpening (facts_of set) graph
    → IsOpening (facts_of (with_arrays_of set shapes)) graph
opens_still set [] graph is = is
opens_still set (shape ∷ shapes) graph is = opens_still (with_array_of set shape) shapes graph (with_shape set shape graph is)
