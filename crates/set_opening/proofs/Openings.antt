-- The graph of an image over which a run can begin opens a run of a class set that has its shapes and whose
-- roots it has.
use Rattle.std.proofs.Common.{◌≡◌, ◌≢◌, ℕ, suc, ◌<◌, ◌≤◌, ◌%◌, ◌^◌, pos, true, List, [], ◌∷◌, Option, Some, None, map, length}
use Rattle.std.proofs.Common.{slice_index_or, refl, sym, ap, ◌∙◌, subst, arith}
use Rattle.std.specs.Prelude.{All, AllPairs, Contains}
use Rattle.std.specs.List.{AllZip}
use Rattle.std.proofs.lemmas.Bool.{eqb-true, ltb-true}
use Rattle.std.proofs.lemmas.List.{get_or-map, length-map, length-append}
use Rattle.ap_base.specs.declared.kind.Kind.{Kind}
use Rattle.ap_base.specs.declared.kind.Kind.TheVariants.{Z, B, C, S, I, J, L, Text}
use Rattle.graph_model.specs.declared.types.Field.{Field}
use Rattle.graph_model.specs.declared.types.Graph.{Graph}
use Rattle.graph_model.specs.declared.types.Heap.{Heap}
use Rattle.graph_model.specs.declared.types.NamedValue.{NamedValue}
use Rattle.graph_model.specs.declared.types.Node.{Node}
use Rattle.graph_model.specs.declared.types.Root.{Root}
use Rattle.graph_model.specs.declared.types.Shape.{Shape}
use Rattle.graph_model.specs.declared.types.Value.{Value}
use Rattle.graph_model.specs.declared.types.Value.TheVariants.{Int, Long, Null, Obj as Object}
use Rattle.graph_model.specs.Heaps.{IsBelow, no_shape, values_of}
use Rattle.line_memory.specs.Memory.{Memory, shown}
use Rattle.image_meaning.specs.Corresponds.{Corresponds, Holds, HoldsReference, IsObject, LiesAt}
use Rattle.image_meaning.specs.Checks.{Words}
use Rattle.image_meaning.specs.Directories.{Directory}
use Rattle.image_meaning.specs.Meaning.{root_word}
use Rattle.image_meaning.specs.Objects.{holds_slots, is_number, kind_among, kind_of, object_slot, shape_number, shape_of}
use Rattle.image_meaning.specs.Opening.{HoldsGraph, found_at, graph_node, no_node}
use Rattle.image_meaning.proofs.Ranges.{get_or_any}
use Rattle.plain_model.specs.Facts.{SetFacts, StaticFacts, arguments_class, classes_of, class_at, stream_class}
use Rattle.plain_model.specs.First.{IsOpening, class_named, literal_object, node_object}
use Rattle.plain_model.specs.Kinds.{AreOf, HasKind, HasRange, IsOf}
use Rattle.directories.proofs.GraphHeaps.{heap_holds, heap_of}
use Rattle.first_spaces.specs.Opened.{IsOpened}
use Rattle.set_opening.specs.Opened.{IsOfClass}

-- ---- the form of a value that a word holds

reference_kind : (R : LiesAt) (w : ℕ) (v : Value) → HoldsReference R w v → HasKind L v
reference_kind R w Null h = tt
reference_kind R w (Object n) h = tt
reference_kind R w (Int i) h = absurd h
reference_kind R w (Long i) h = absurd h

has_kind : (R : LiesAt) (kind : Kind) (w : ℕ) (v : Value) → Holds R kind w v → HasKind kind v
has_kind R L w v h = reference_kind R w v h
has_kind R Z w v h = subst (HasKind Z) (sym h.1) tt
has_kind R B w v h = subst (HasKind B) (sym h.1) tt
has_kind R C w v h = subst (HasKind C) (sym h.1) tt
has_kind R S w v h = subst (HasKind S) (sym h.1) tt
has_kind R I w v h = subst (HasKind I) (sym h.1) tt
has_kind R J w v h = subst (HasKind J) (sym h.1) tt
has_kind R Text w v h = subst (HasKind Text) (sym h.1) tt

-- a boolean's word is 0 or 1, and a char's has 16 bits
bit_same : (w : ℕ) → is_number Z w ≡ true → HasRange Z (Int (pos w))
bit_same w is =
    let below = ltb-true w 2 is in
    let same : w % 2 ≡ w = omega (arith, below) in
    ap (λ m. Int (pos m)) same

char_same : (w : ℕ) → is_number C w ≡ true → HasRange C (Int (pos w))
char_same w is =
    let below = ltb-true w (2 ^ 16) is in
    let same : w % 2 ^ 16 ≡ w = omega (arith, below) in
    ap (λ m. Int (pos m)) same

has_range : (R : LiesAt) (kind : Kind) (w : ℕ) (v : Value) → Holds R kind w v → HasRange kind v
has_range R Z w v h = subst (HasRange Z) (sym h.1) (bit_same w h.0)
has_range R C w v h = subst (HasRange C) (sym h.1) (char_same w h.0)
has_range R L w v h = tt
has_range R B w v h = tt
has_range R S w v h = tt
has_range R I w v h = tt
has_range R J w v h = tt
has_range R Text w v h = tt

-- a reference is to a node
reference_below : (lines : List ℕ) (w : ℕ) (v : Value) → HoldsReference (found_at lines) w v
    → IsBelow (length lines) v
reference_below lines w Null h = tt
reference_below lines w (Object n) h = h.2.0
reference_below lines w (Int i) h = tt
reference_below lines w (Long i) h = tt

is_below : (lines : List ℕ) (kind : Kind) (w : ℕ) (v : Value) → Holds (found_at lines) kind w v
    → IsBelow (length lines) v
is_below lines L w v h = reference_below lines w v h
is_below lines Z w v h = subst (IsBelow (length lines)) (sym h.1) tt
is_below lines B w v h = subst (IsBelow (length lines)) (sym h.1) tt
is_below lines C w v h = subst (IsBelow (length lines)) (sym h.1) tt
is_below lines S w v h = subst (IsBelow (length lines)) (sym h.1) tt
is_below lines I w v h = subst (IsBelow (length lines)) (sym h.1) tt
is_below lines J w v h = subst (IsBelow (length lines)) (sym h.1) tt
is_below lines Text w v h = subst (IsBelow (length lines)) (sym h.1) tt

-- ---- the values of a node

-- each slot's value is of its kind
abbrev SlotsAreOf : Option Kind → List Field → List Value → Type 0
SlotsAreOf element fields values =
    (i : ℕ) → i < length values → IsOf (kind_among element fields i) (slice_index_or values i Null)

fields_of : (fields : List Field) (values : List Value) → length fields ≡ length values
    → SlotsAreOf None fields values
    → AllZip (λ (f : Field) value. IsOf f.kind value) fields values
fields_of [] [] long of = tt
fields_of [] (v ∷ vs) long of = absurd (omega (arith, long))
fields_of (f ∷ fs) [] long of = absurd (omega (arith, long))
fields_of (f ∷ fs) (v ∷ vs) long of =
    (of 0 (omega arith), fields_of fs vs (omega (arith, long)) (λ i below. of (suc i) (omega (arith, below))))

are_of : (element : Option Kind) (fields : List Field) (values : List Value)
    → holds_slots element fields (length values) ≡ true
    → SlotsAreOf element fields values → AreOf element fields values
are_of None fields values full of = fields_of fields values (eqb-true (length fields) (length values) full) of
are_of (Some kind) fields values full of =
    λ k d below. subst (IsOf kind) (get_or_any values k Null d below) (of k below)

-- its roots are the directory's
pub opened_names : (memory : Memory) (directory : Directory) (lines : List ℕ) (graph : Graph)
    → IsOpened memory directory lines graph
    → map (λ (root : NamedValue). root.name) graph.roots ≡ directory.roots
opened_names memory directory lines graph opened =
    sym (heap_holds graph).names ∙ (opened.corresponds (heap_of graph) (heap_holds graph)).names

module _ (set : SetFacts) (memory : Memory) (directory : Directory) (lines : List ℕ) (graph : Graph)
    (opened : IsOpened memory directory lines graph)
    (classes : All (IsOfClass set) directory.shapes)
    (known : All (λ (s : Shape). class_named (classes_of set) s.name < length (classes_of set))
    directory.shapes)
  where
    abbrev words : Words
    words = shown memory

    abbrev heap : Heap
    heap = heap_of graph

    abbrev R : LiesAt
    R = found_at lines

    holds : HoldsGraph heap graph
    holds = heap_holds graph

    k : Corresponds R directory memory.size words heap
    k = opened.corresponds heap holds

    -- ---- its nodes

    module _ (n : ℕ) (below : n < length graph.nodes) where
      abbrev node : Node
      node = graph_node graph n

      abbrev line : ℕ
      line = slice_index_or lines n 0

      o : IsObject R directory.shapes memory.size words heap line n
      o = let many = opened.nodes in k.objects line n (omega (arith, below, many), refl)

      shape_is : shape_of directory.shapes words line ≡ node.shape
      shape_is = o.shape ∙ holds.shapes n below

      values_are : values_of heap n ≡ node.values
      values_are = holds.slots n below

      -- what holds of each of the directory's shapes holds of the node's
      of_shape : (P : Shape → Type 0) → All P directory.shapes → P node.shape
      of_shape P all = subst P shape_is (all (shape_number words line) no_shape o.known)

      abbrev class : Shape
      class = (class_at set (class_named (classes_of set) node.shape.name)).shape

      is_known : class_named (classes_of set) node.shape.name < length (classes_of set)
      is_known = of_shape (λ s. class_named (classes_of set) s.name < length (classes_of set)) known

      class_is : class ≡ node.shape
      class_is = sym (of_shape (IsOfClass set) classes is_known)

      slot : (i : ℕ) → i < length node.values
          → Holds R (kind_of node.shape i) (object_slot words line i) (slice_index_or node.values i Null)
      slot i at =
          subst (λ (s : Shape). Holds R (kind_of s i) (object_slot words line i)
          (slice_index_or node.values i Null)) shape_is
          (subst (λ (vs : List Value). Holds R (kind_of (shape_of directory.shapes words line) i)
          (object_slot words line i) (slice_index_or vs i Null))
          values_are
          (o.slots i (subst (λ (vs : List Value). i < length vs) (sym values_are) at) refl))

      slots_of : SlotsAreOf node.shape.element node.shape.fields node.values
      slots_of i at = record {
        form = has_kind R (kind_of node.shape i) (object_slot words line i)
            (slice_index_or node.values i Null) (slot i at);
        range = has_range R (kind_of node.shape i) (object_slot words line i)
            (slice_index_or node.values i Null) (slot i at);
      }

      full : holds_slots node.shape.element node.shape.fields (length node.values) ≡ true
      full =
          subst (λ (s : Shape). holds_slots s.element s.fields (length node.values) ≡ true) shape_is
          (subst (λ (vs : List Value). holds_slots (shape_of directory.shapes words line).element (shape_of
          directory.shapes words line).fields (length vs) ≡ true)
          values_are o.full)

      values_of_class : AreOf class.element class.fields node.values
      values_of_class =
          subst (λ (s : Shape). AreOf s.element s.fields node.values) (sym class_is)
          (are_of node.shape.element node.shape.fields node.values full slots_of)

      node_below : All (IsBelow (length graph.nodes)) node.values
      node_below i d at =
          subst (λ (m : ℕ). IsBelow m (slice_index_or node.values i d)) opened.nodes
          (subst (IsBelow (length lines)) (get_or_any node.values i Null d at)
          (is_below lines (kind_of node.shape i) (object_slot words line i)
          (slice_index_or node.values i Null) (slot i at)))

    -- each node is one of those
    each_node : (P : Node → Type 0) → ((n : ℕ) → n < length graph.nodes → P (graph_node graph n))
        → All P graph.nodes
    each_node P at n d below = subst P (get_or_any graph.nodes n no_node d below) (at n below)

    -- ---- its roots

    pub names_are : map (λ (root : NamedValue). root.name) graph.roots ≡ directory.roots
    names_are = sym holds.names ∙ k.names

    roots_many : length heap.roots ≡ length graph.roots
    roots_many =
        sym (length-map heap.roots (λ (root : Root). root.name))
        ∙ ap (λ (ns : List (List ℕ)). length ns) holds.names
        ∙ length-map graph.roots (λ (root : NamedValue). root.name)

    root_held : (r : ℕ) (d : NamedValue) → r < length graph.roots
        → HoldsReference R (root_word words r) (slice_index_or graph.roots r d).value
    root_held r d below =
        subst (HoldsReference R (root_word words r))
        (ap (λ (vs : List Value). slice_index_or vs r Null) holds.values
        ∙ get_or-map (λ (root : NamedValue). root.value) graph.roots r d Null below)
        (k.at_roots r (omega (arith, below, roots_many)))

    pub is_opening : AllPairs (λ (a b : List ℕ). a ≢ b) directory.roots
        → All (λ (s : StaticFacts). s.is_root ≡ true → Contains directory.roots s.name) set.statics
        → length set.literals ≤ 2 ^ 28 → memory.size ≤ 2 ^ 22 → IsOpening set graph
    is_opening differ roots few sized = record {
      shapes = each_node (λ n. class_named (classes_of set) n.shape.name < length (classes_of set)) is_known;
      agree = each_node (λ n. (class_at set (class_named (classes_of set) n.shape.name)).shape ≡ n.shape)
          class_is;
      values = each_node (λ n. (let shape =
          (class_at set (class_named (classes_of set) n.shape.name)).shape in
          AreOf shape.element shape.fields n.values)) values_of_class;
      has_roots = subst (λ (names : List (List ℕ)). All (λ (s : StaticFacts). s.is_root ≡ true
          → Contains names s.name) set.statics)
          (sym names_are) roots;
      names_differ = λ i j d lt below.
          let pairs = subst (AllPairs (λ (a b : List ℕ). a ≢ b)) (sym names_are) differ in
          let many = length-map graph.roots (λ (root : NamedValue). root.name) in
          let first = get_or-map (λ (root : NamedValue). root.name) graph.roots i d d.name (omega (
            arith,
            lt,
            below,
          )) in
          let second = get_or-map (λ (root : NamedValue). root.name) graph.roots j d d.name below in
          (λ same. pairs i j d.name lt (omega (arith, below, many)) (first ∙ same ∙ sym second));
      references = λ r d below. reference_kind R (root_word words r)
          (slice_index_or graph.roots r d).value (root_held r d below);
      in_roots = λ r d below.
          subst (λ (m : ℕ). IsBelow m (slice_index_or graph.roots r d).value) opened.nodes
          (reference_below lines (root_word words r)
          (slice_index_or graph.roots r d).value (root_held r d below));
      in_nodes = each_node (λ n. All (IsBelow (length graph.nodes)) n.values) node_below;
      few =
          let nodes = length-map graph.nodes (node_object set graph) in
          let literals = length-map set.literals (literal_object set graph) in
          let both = length-append (map (node_object set graph) graph.nodes)
          (record { shape = stream_class set; values = [] } ∷ record {
            shape = arguments_class set;
            values =
                [];
          } ∷ map (literal_object set graph) set.literals) in
          let lined = opened.few in let same = opened.nodes in
          omega (arith, nodes, literals, both, lined, same, few, sized);
    }
