-- A dense image stands for its graph.
use Rattle.std.proofs.Common.{◌≡◌, ◌≢◌, inl, inr, ℕ, ◌+◌, ◌<◌, ◌≤◌, List, [], length, map}
use Rattle.std.proofs.Common.{Option, refl, sym, ◌∙◌, ap, subst, arith, slice_index_or}
use Rattle.std.proofs.lemmas.Bool.{cases_lt}
use Rattle.std.proofs.lemmas.List.{get_or-map, length-map, get_or_past}
use Rattle.ap_base.specs.declared.kind.Kind.{Kind}
use Rattle.ap_base.specs.declared.kind.Kind.TheVariants.{Z, B, C, S, I, J, L, Text}
use Rattle.graph_model.specs.declared.types.Value.{Value}
use Rattle.graph_model.specs.declared.types.Value.TheVariants.{Int, Long, Null, Obj as Object}
use Rattle.graph_model.specs.declared.types.Shape.{Shape}
use Rattle.graph_model.specs.declared.types.NamedValue.{NamedValue}
use Rattle.graph_model.specs.declared.types.Graph.{Graph}
use Rattle.graph_model.specs.Heaps.{no_shape, values_of}
use Rattle.image_layout.specs.Places.{min_lines, max_lines, root_slots, directory_words, lines_of}
use Rattle.image_meaning.specs.Checks.{Words}
use Rattle.image_meaning.specs.Entries.{IsShape}
use Rattle.image_meaning.specs.Directories.{Directory, no_entries, with_all, AreEntries}
use Rattle.image_meaning.specs.Logs.{or_else, put_back}
use Rattle.image_meaning.specs.Objects.{kind_of, shape_number, shape_of, length_at}
use Rattle.image_meaning.specs.Meaning.{StandsFor}
use Rattle.image_meaning.specs.Spelling.{word_of_value, IsNumber}
use Rattle.image_meaning.specs.Corresponds.{LiesAt, HoldsReference, HoldsNumber, Holds, IsObject, AreApart, Corresponds, root_value_at}
use Rattle.image_meaning.specs.Arrays.{IsInUse}
use Rattle.image_meaning.specs.Opening.{graph_node, HoldsGraph}
use Rattle.image_meaning.proofs.Directories.{roots-few}
use Rattle.image_meaning.proofs.Opened.{stands, put_back-same_words, opens-in_use}
use Rattle.image_meaning.proofs.Spelling.{spelled_number}
use Rattle.image_meaning.specs.Laws.{Opens}
use Rattle.dense_image.specs.Graphs.{IsReference, CanHold, root_entry, root_value_of, CanBeStoodFor}
use Rattle.dense_image.specs.Written.{names_of, shapes_of, shape_number_of, entries_of, line_of_node, word_in}
use Rattle.dense_image.specs.Written.{root_words, IsWritten, HasRoom}
use Rattle.dense_image.proofs.Heaps.{heap_of, object_count, root_count, heap_holds}
use Rattle.dense_image.proofs.Lines.{ends_before, ends_within, begins_once}
use Rattle.dense_image.proofs.Shapes.{with_these, name_placed, shapes_have, each_shape, directory_is, entries_may_stand, shapes_few}

-- node n lies where it begins
abbrev pub node_at : Graph → LiesAt
node_at graph line n = (n < length graph.nodes) × (line ≡ line_of_node graph n)

-- ---- values

reference_held : (graph : Graph) (value : Value) → IsReference (length graph.nodes) value
    → HoldsReference (node_at graph) (word_in graph value) value
reference_held graph Null is = refl
reference_held graph (Object n) is = (line_of_node graph n, refl, (is, refl))
reference_held graph (Int i) is = absurd is
reference_held graph (Long i) is = absurd is

number_word : (graph : Graph) (kind : Kind) (value : Value) → IsNumber kind value → word_in graph value ≡ word_of_value value
number_word graph kind (Int i) is = refl
number_word graph kind (Long i) is = refl
number_word graph kind Null is = refl
number_word graph Z (Object n) is = absurd is
number_word graph B (Object n) is = absurd is
number_word graph C (Object n) is = absurd is
number_word graph S (Object n) is = absurd is
number_word graph I (Object n) is = absurd is
number_word graph J (Object n) is = absurd is
number_word graph L (Object n) is = absurd is
number_word graph Text (Object n) is = absurd is

number_held : (graph : Graph) (kind : Kind) (value : Value) → IsNumber kind value → HoldsNumber kind (word_in graph value) value
number_held graph kind value is = rw (number_word graph kind value is) (spelled_number kind value is)

value_held : (graph : Graph) (kind : Kind) (value : Value) → CanHold (length graph.nodes) kind value
    → Holds (node_at graph) kind (word_in graph value) value
value_held graph L value is = reference_held graph value is
value_held graph Z value is = number_held graph Z value is
value_held graph B value is = number_held graph B value is
value_held graph C value is = number_held graph C value is
value_held graph S value is = number_held graph S value is
value_held graph I value is = number_held graph I value is
value_held graph J value is = number_held graph J value is
value_held graph Text value is = number_held graph Text value is

module _ (size : ℕ) (words : Words) (graph : Graph) (enough : min_lines ≤ size) (most : size ≤ max_lines) (can : CanBeStoodFor graph)
    (room : HasRoom size graph) (is : IsWritten size words graph) where
  -- ---- shapes

  shapes : List Shape
  shapes = shapes_of graph.nodes

  nodes_shaped : (n : ℕ) → n < length graph.nodes → IsShape (graph_node graph n).shape
  nodes_shaped n h = (can.nodes n h).shape

  -- some node has the shape
  abbrev IsOfNode : Shape → Type 0
  IsOfNode shape = (m : ℕ) × (m < length graph.nodes) × (shape ≡ (graph_node graph m).shape)

  abbrev Numbered : ℕ → Type 0
  Numbered n =
      (shape_number_of graph n < length (shapes_of graph.nodes))
      × (slice_index_or (shapes_of graph.nodes) (shape_number_of graph n) no_shape ≡ (graph_node graph n).shape)

  numbered : (n : ℕ) → n < length graph.nodes → Numbered n
  numbered n h =
      let all = shapes_of graph.nodes in
      let name = (graph_node graph n).shape.name in
      let at = name_placed 0 (names_of all) name (shapes_have [] graph.nodes n h) in
      let number : shape_number_of graph n ≡ at.0 = ap (λ (o : Option ℕ). or_else o 0) at.3 ∙ (let z : 0 + at.0 ≡ at.0 = omega arith in z) in
      let below : at.0 < length all = omega (arith, at.1, length-map all (λ (s : Shape). s.name)) in
      let from = each_shape IsOfNode [] graph.nodes (λ k none. absurd (omega (arith, none))) (λ m l. (m, l, refl)) at.0 below in
      let named : (slice_index_or all at.0 no_shape).name ≡ name =
      sym (get_or-map (λ (s : Shape). s.name) all at.0 no_shape [] below) ∙ at.2 in
      let same : (graph_node graph from.0).shape ≡ (graph_node graph n).shape =
      can.one_shape from.0 n from.1 h (ap (λ (s : Shape). s.name) (sym from.2) ∙ named) in
      rw number (below, from.2 ∙ same)

  few_shapes : length (shapes_of graph.nodes) ≤ directory_words
  few_shapes = omega (arith, shapes_few (shapes_of graph.nodes) (map root_entry graph.roots), room.directory)

  -- ---- heads

  node_lines : (n : ℕ) → n < length graph.nodes → line_of_node graph n + lines_of (length (graph_node graph n).values) ≤ size
  node_lines n h = omega (arith, ends_within graph n h, room.objects)

  head_number : (n : ℕ) → n < length graph.nodes → shape_number words (line_of_node graph n) ≡ shape_number_of graph n
  head_number n h =
      let below = (numbered n h).0 in
      rw (is.heads n h) (omega (arith, below, few_shapes))

  head_length : (n : ℕ) → n < length graph.nodes → length_at words (line_of_node graph n) ≡ length (graph_node graph n).values
  head_length n h =
      let below = (numbered n h).0 in
      rw (is.heads n h) (omega (arith, below, few_shapes))

  -- ---- the correspondence

  abbrev pub directory : Directory
  directory = with_these (shapes_of graph.nodes) (map (λ (root : NamedValue). root.name) graph.roots)

  holds : HoldsGraph (heap_of graph) graph
  holds = heap_holds graph

  shape_is : (n : ℕ) → n < length graph.nodes → shape_of (shapes_of graph.nodes) words (line_of_node graph n) ≡ (graph_node graph n).shape
  shape_is n h = rw (head_number n h) (numbered n h).1

  values_are : (n : ℕ) → n < length graph.nodes → values_of (heap_of graph) n ≡ (graph_node graph n).values
  values_are n h = (heap_holds graph).slots n h

  object_is : (n : ℕ) → n < length graph.nodes → IsObject (node_at graph) (shapes_of graph.nodes) size words (heap_of graph) (line_of_node graph n) n
  object_is n h =
      let node = can.nodes n h in
      record {
        there = omega (arith, h, object_count graph);
        known = rw (head_number n h) (numbered n h).0;
        shape = shape_is n h ∙ sym ((heap_holds graph).shapes n h);
        count = head_length n h ∙ ap (λ (vs : List Value). length vs) (sym (values_are n h));
        full = rw (shape_is n h, values_are n h) node.full;
        low = omega arith;
        high = rw (values_are n h) (node_lines n h);
        slots = λ i below kept.
            let within : i < length (graph_node graph n).values = rw (values_are n h) at below in
            rw (shape_is n h, values_are n h, is.slots n i h within)
            (value_held graph (kind_of (graph_node graph n).shape i) (slice_index_or (graph_node graph n).values i Null) (node.slots i within));
      }

  apart_at : (m n : ℕ) → m < length graph.nodes → n < length graph.nodes → line_of_node graph m ≢ line_of_node graph n
      → AreApart words (line_of_node graph m) (line_of_node graph n)
  apart_at m n x y ne = rw (head_length m x, head_length n y) (elim (cases_lt m n) [
    | inl before ↦ inl (ends_before graph m n before y)
    | inr from ↦ elim (cases_lt n m) [
      | inl before ↦ inr (ends_before graph n m before x)
      | inr past ↦ absurd (let same : m ≡ n = omega (arith, from, past) in ne (ap (line_of_node graph) same))
    ]
  ])

  entries_stand : AreEntries no_entries (entries_of graph)
  entries_stand = entries_may_stand graph.nodes graph.roots nodes_shaped can.names

  directory_here : with_all no_entries (entries_of graph) ≡ directory
  directory_here = directory_is (shapes_of graph.nodes) graph.roots

  roots_counted : length (heap_of graph).roots ≤ root_slots
  roots_counted =
      let few = roots-few no_entries (entries_of graph) entries_stand (omega arith) in
      let here : length (map (λ (root : NamedValue). root.name) graph.roots) ≤ root_slots =
      subst (λ (d : Directory). length d.roots ≤ root_slots) directory_here few in
      omega (arith, here, length-map graph.roots (λ (root : NamedValue). root.name), root_count graph)

  root_is : (r : ℕ) → r < length graph.roots → slice_index_or (root_words graph) r 0 ≡ word_in graph (root_value_of graph r)
  root_is r h =
      get_or-map (λ (root : NamedValue). word_in graph root.value) graph.roots r (record { name = []; value = Null }) 0 h
      ∙ ap (word_in graph) (sym (get_or-map (λ (root : NamedValue). root.value) graph.roots r (record { name = []; value = Null }) Null h))

  corresponds : Corresponds (node_at graph) directory size words (heap_of graph)
  corresponds = record {
    one_object = λ line m n x y. begins_once graph m n x.0 y.0 (sym x.1 ∙ y.1);
    one_line = λ a b n x y. x.1 ∙ sym y.1;
    objects = λ line n x. subst (λ l. IsObject (node_at graph) (shapes_of graph.nodes) size words (heap_of graph) l n) (sym x.1) (object_is n x.0);
    apart = λ a b m n x y ne. rw (x.1, y.1) (apart_at m n x.0 y.0 (λ same. ne (x.1 ∙ same ∙ sym y.1)));
    few = roots_counted;
    names = (heap_holds graph).names;
    at_roots = λ r h.
        let below : r < length graph.roots = omega (arith, h, root_count graph) in
        let value : root_value_at (heap_of graph) r ≡ root_value_of graph r =
        ap (λ (vs : List Value). slice_index_or vs r Null) (heap_holds graph).values in
        rw (value, is.roots r (omega (arith, h, roots_counted)), root_is r below) (reference_held graph (root_value_of graph r) (can.roots r below));
    unused = λ r from below.
        is.roots r below
        ∙ get_or_past (root_words graph) r 0
        (omega (arith, from, root_count graph, length-map graph.roots (λ (root : NamedValue). word_in graph root.value)));
  }

  in_use : IsInUse size words
  in_use = record {
    enough = enough;
    most = most;
    magic = is.begins;
    version = is.layout;
    lines = is.lines;
    directory = omega (arith, is.spells.used, room.directory);
    logs = is.logs;
  }

  pub opens : Opens size words directory
  opens = subst (λ d. Opens size words d) directory_here (opens-in_use size words (entries_of graph) in_use entries_stand is.spells)

  pub corresponds_back : Corresponds (node_at graph) directory size (put_back words) (heap_of graph)
  corresponds_back = put_back-same_words (node_at graph) directory size words (heap_of graph) is.logs corresponds

  pub stood_for : StandsFor size words graph
  stood_for =
      subst (λ g. StandsFor size words g) (can.canonical (heap_of graph) (heap_holds graph))
      (stands (node_at graph) size words directory (heap_of graph) opens corresponds_back)
