-- A twin heap over the nodes of an image.
use Rattle.std.proofs.Common.{◌≡◌, ◌≢◌, ◌⊎◌, inl, inr, ℕ, ◌+◌, ◌*◌, ◌/◌, ◌%◌, ◌<◌, ◌≤◌, ◌^◌, true, List, map, length}
use Rattle.std.proofs.Common.{slice_index_or, Some, refl, ap, ◌∙◌, sym, subst, arith, length-append}
use Rattle.std.specs.Prelude.{slice_index}
use Rattle.std.proofs.lemmas.List.{ext_get_or, length-map, get_or-map, get_or_append_left}
use Rattle.graph_model.specs.declared.types.Graph.{Graph}
use Rattle.graph_model.specs.declared.types.Heap.{Heap}
use Rattle.graph_model.specs.declared.types.Obj.{Obj}
use Rattle.graph_model.specs.declared.types.Shape.{Shape}
use Rattle.graph_model.specs.declared.types.Value.{Value}
use Rattle.graph_model.specs.declared.types.Value.TheVariants.{Null}
use Rattle.graph_model.specs.Heaps.{no_object, no_shape, object_at, values_of}
use Rattle.line_memory.specs.Memory.{Memory, shown}
use Rattle.image_meaning.specs.Corresponds.{Corresponds, Holds, IsObject}
use Rattle.image_meaning.specs.Directories.{Directory}
use Rattle.image_meaning.specs.Objects.{kind_of, shape_of}
use Rattle.image_meaning.specs.Opening.{HoldsGraph, found_at, no_node}
use Rattle.plain_model.specs.Facts.{SetFacts, classes_of}
use Rattle.plain_model.specs.First.{class_named, first_heap, node_object}
use Rattle.plain_model.proofs.OwnGraph.{object_is_node}
use Rattle.one_space.specs.Layout.{row}
use Rattle.one_space.proofs.Laid.{length-row, get_or-row}
use Rattle.twin_forms.specs.declared.kinds.ShapeKinds.{ShapeKinds}
use Rattle.twin_forms.specs.Sights.{no_kinds, slot_kind, view_of}
use Rattle.twin_forms.specs.Sights.{kind_in as kind_among}
use Rattle.twin_forms.specs.Table.{Entry, View, entry, is_reference, kind_at, line_of, value_of, word_of}
use Rattle.twin_forms.proofs.Led.{word_moved}
use Rattle.twin_heap.specs.Here.{IsOpening, kinds_of, opened, opening}
use Rattle.twin_heap.proofs.Opens.{opening_at, opening_long}
use Rattle.two_spaces.specs.Seen.{Spaces, object_of, shown_of, slot_shown, slot_value}
use Rattle.two_spaces.proofs.Telling.{objects_are}
use Rattle.first_spaces.specs.declared.parts.SpacesParts.{SpacesParts}
use Rattle.first_spaces.specs.Filled.{CanBeEmpty, IsEmpty}
use Rattle.first_spaces.specs.Parts.{IsBeginning}
use Rattle.first_spaces.proofs.Holding.{first_holds}
use Rattle.first_spaces.proofs.Values.{AtLines, held_kind, kind_is, shown_word}

module _ (set : SetFacts) (graph : Graph) (directory : Directory) (parts : SpacesParts) (lines : List ℕ)
    (memory : Memory)
    (is : IsBeginning set graph directory parts lines memory) where
  abbrev pub heap : Heap
  heap = first_heap set graph

  pub holds : HoldsGraph heap graph
  holds = first_holds set graph is.is_opening

  pub corresponds : Corresponds (found_at lines) directory memory.size (shown memory) heap
  corresponds = is.is_opened.corresponds heap holds

  abbrev pub line : ℕ → ℕ
  line n = slice_index lines n

  pub node : (n : ℕ) → n < length lines → IsObject (found_at lines) directory.shapes memory.size (shown
      memory) heap (line n) n
  node n lt = corresponds.objects (line n) n (lt, refl)

  abbrev pub kinds : List ShapeKinds
  kinds = map kinds_of parts.tables.heap_shapes

  abbrev pub object : ℕ → Entry
  object n = opened memory (line n)

  pub counted : (n : ℕ) → n < length lines → (object n).slots ≡ length (values_of heap n)
  counted n lt = (node n lt).count

  heap_shapes_long : length directory.shapes ≤ length parts.tables.heap_shapes
  heap_shapes_long =
      let tables = is.are_parts.tables in
      let long = length-append directory.shapes tables.further in
      let same = ap (λ (ss : List Shape). length ss) tables.heap_shapes_are in
      omega (arith, long, same)

  kinds_long : length kinds ≡ length parts.tables.heap_shapes
  kinds_long = length-map parts.tables.heap_shapes kinds_of

  pub shape_at : (k : ℕ) → k < length directory.shapes
      → slice_index_or kinds k no_kinds ≡ kinds_of (slice_index_or directory.shapes k no_shape)
  shape_at k lt =
      let tables = is.are_parts.tables in
      get_or-map kinds_of parts.tables.heap_shapes k no_shape no_kinds (omega (arith, lt, heap_shapes_long))
      ∙ ap (λ ss. kinds_of (slice_index_or ss k no_shape)) tables.heap_shapes_are
      ∙ ap kinds_of (get_or_append_left directory.shapes tables.further no_shape k lt)

  -- the kind of a node's slot
  pub slot_kind_is : (n i : ℕ) → n < length lines → i < (object n).slots
      → slot_kind kinds (object n).shape i ≡ Some (kind_of (shape_of directory.shapes (shown memory) (line n))
      i)
  slot_kind_is n i lt below =
      let o = node n lt in
      let count = counted n lt in
      ap (λ x. kind_among x i) (shape_at (object n).shape o.known)
      ∙ kind_is (shape_of directory.shapes (shown memory) (line n)) (length (values_of heap n)) i o.full
      (omega (arith, below, count))

  -- what it holds
  pub slot_holds : (n i : ℕ) → n < length lines → i < (object n).slots
      → Holds (found_at lines) (kind_of (shape_of directory.shapes (shown memory) (line n)) i)
      (shown memory (line n + line_of i) ((1 + i) % 8)) (slice_index_or (values_of heap n) i Null)
  slot_holds n i lt below =
      let count = counted n lt in
      let swap : i + 1 ≡ 1 + i = omega arith in
      subst (λ k. Holds (found_at lines) (kind_of (shape_of directory.shapes (shown memory) (line n)) i)
      (shown memory (line n + k / 8) (k % 8)) (slice_index_or (values_of heap n) i Null)) swap
      ((node n lt).slots i (omega (arith, below, count)) refl)

  references : (n i : ℕ) → n < length lines → is_reference (slot_kind kinds (object n).shape i) ≡ true → i <
      (object n).slots
      → (shown memory (line n + line_of i) ((1 + i) % 8) ≡ 0)
      ⊎ ((m : ℕ) × (m < length lines) × (shown memory (line n + line_of i) ((1 + i) % 8) ≡ 2 * line m))
  references n i lt ref below =
      held_kind lines (kind_of (shape_of directory.shapes (shown memory) (line n)) i)
      (shown memory (line n + line_of i) ((1 + i) % 8)) (slice_index_or (values_of heap n) i Null)
      (ap is_reference (sym (slot_kind_is n i lt below)) ∙ ref) (slot_holds n i lt below)

  pub opens : IsOpening memory kinds lines
  opens = record {
    few_lines = let most = is.is_opened.most in omega (arith, most);
    few_shapes = let few = is.are_parts.tables.few in omega (arith, few, kinds_long);
    within = λ n lt.
        let o = node n lt in
        let low = o.low in
        let high = o.high in
        let count = counted n lt in
        (omega (arith, low), omega (arith, high, count));
    shape_in = λ n lt. let known = (node n lt).known in omega (arith, known, heap_shapes_long, kinds_long);
    few_slots = λ n lt.
        let high = (node n lt).high in
        let count = counted n lt in
        let most = is.is_opened.most in
        omega (arith, high, count, most);
    apart = λ i j li lj ne.
        let different : line i ≢ line j = λ same. ne (corresponds.one_object (line i) i j (li, refl) (
          lj,
          sym
              same,
        )) in
        elim (corresponds.apart (line i) (line j) i j (li, refl) (lj, refl) different) [
          | inl before ↦ inl (omega (arith, before))
          | inr after ↦ inr (omega (arith, after))
        ];
    refs = references;
  }

  -- a node's class
  pub class_is : (n : ℕ) → n < length lines
      → slice_index parts.tables.classes.items (object n).shape ≡ (object_at heap n).shape
  class_is n lt =
      let o = node n lt in
      let nodes = is.is_opened.nodes in
      let below : n < length graph.nodes = omega (arith, lt, nodes) in
      is.are_parts.tables.named (object n).shape o.known
      ∙ ap (λ (s : Shape). class_named (classes_of set) s.name) (o.shape ∙ holds.shapes n below)
      ∙ sym (ap (λ (x : Obj). x.shape) (object_is_node set graph is.is_opening n below))

  class_there : (n : ℕ) → n < length lines → (object_at heap n).shape < length parts.tables.shapes
  class_there n lt =
      let nodes = is.is_opened.nodes in
      let below : n < length graph.nodes = omega (arith, lt, nodes) in
      let many = ap (λ (ss : List Shape). length ss) is.are_parts.tables.shapes_are in
      let long = length-map (classes_of set) (λ c. c.shape) in
      let there = is.is_opening.shapes n no_node below in
      subst (λ c. c < length parts.tables.shapes) (sym (ap (λ (x : Obj). x.shape) (object_is_node set graph
      is.is_opening n below)))
      (omega (arith, there, many, long))

  pub can_be_empty : (words : ℕ) → words < 2 ^ 32 → CanBeEmpty parts.tables lines words memory
  can_be_empty words small = record {
    few = let few = is.is_opened.few in let most = is.is_opened.most in omega (arith, few, most, small);
    opens = opens;
    behind = λ n lt. let low = (node n lt).low in omega (arith, low);
    classed = λ n lt. subst (λ c. c < length parts.tables.shapes) (sym (class_is n lt)) (class_there n lt);
    classes = is.are_parts.tables.classed;
  }

  -- ---- what is shown

  pub at_lines : AtLines lines (opening memory lines)
  at_lines n lt =
      let e = opening_at memory lines n lt in
      let long = opening_long memory lines in
      let low = (node n lt).low in (
        omega (arith, lt, long),
        subst (λ (x : Entry). 1 < x.stage) (sym e) (omega arith),
        ap (λ (x : Entry). x.line) e,
        omega (arith, low),
      )

  module _ (words : ℕ) (s : Spaces) (empty : IsEmpty parts.tables lines words memory s) where
    abbrev v : View
    v = view_of s.twin

    kind_shown : (n i : ℕ) → n < length lines → i < (object n).slots
        → kind_at v (object n) i ≡ Some (kind_of (shape_of directory.shapes (shown memory) (line n)) i)
    kind_shown n i lt below =
        ap (λ ks. slot_kind ks (object n).shape i) empty.tables_are.kinds ∙ slot_kind_is n i lt below

    word_shown : (n i : ℕ) → word_of v (object n) i ≡ shown memory (line n + line_of i) ((1 + i) % 8)
    word_shown n i =
        let l = line n in
        let at_line : (8 * l + 1 + i) / 8 ≡ l + (1 + i) / 8 = omega arith in
        let at_word : (8 * l + 1 + i) % 8 ≡ (1 + i) % 8 = omega arith in
        word_moved v (object n) i (omega arith)
        ∙ ap (λ m. shown m ((8 * l + 1 + i) / 8) ((8 * l + 1 + i) % 8)) empty.memory_is
        ∙ ap (λ k. shown memory k ((8 * l + 1 + i) % 8)) at_line
        ∙ ap (shown memory (l + (1 + i) / 8)) at_word

    value_shown : (n i : ℕ) → n < length lines → i < (object n).slots
        → slot_shown v (object n) i ≡ slice_index_or (values_of heap n) i Null
    value_shown n i lt below =
        let kind = kind_of (shape_of directory.shapes (shown memory) (line n)) i in
        ap (λ k. slot_value k (value_of v (is_reference k) (word_of v (object n) i))) (kind_shown n i lt
        below)
        ∙ ap (λ w. slot_value (Some kind) (value_of v (is_reference (Some kind)) w)) (word_shown n i)
        ∙ shown_word v (opening memory lines) lines kind (shown memory (line n + line_of i) ((1 + i) % 8))
        (slice_index_or (values_of heap n) i Null) empty.stands.lies at_lines (slot_holds n i lt below)

    values_shown : (n : ℕ) → n < length lines → row (object n).slots (slot_shown v (object n)) ≡ values_of
        heap n
    values_shown n lt =
        let long = length-row (object n).slots (slot_shown v (object n)) in
        ext_get_or Null (row (object n).slots (slot_shown v (object n))) (values_of heap n)
        (long ∙ counted n lt) (λ i inside.
        let below : i < (object n).slots = omega (arith, inside, long) in
        get_or-row (object n).slots (slot_shown v (object n)) i Null below ∙ value_shown n i lt below)

    make : ℕ → List Value → Obj
    make class values = record { shape = class; values = values }

    object_shown : (n : ℕ) → n < length lines → object_of s.classes v (object n) ≡ object_at heap n
    unfolding make
    object_shown n lt =
        ap (λ cs. make (slice_index cs (object n).shape) (row (object n).slots (slot_shown v (object n))))
        empty.tables_are.classes
        ∙ ap (λ c. make c (row (object n).slots (slot_shown v (object n)))) (class_is n lt)
        ∙ ap (make (object_at heap n).shape) (values_shown n lt)

    pub nodes_shown : (shown_of s).objects ≡ map (node_object set graph) graph.nodes
    nodes_shown =
        let es = opening memory lines in
        let long = opening_long memory lines in
        let nodes = is.is_opened.nodes in
        let f : ℕ → Obj = λ n. object_of s.classes v (entry es n) in
        let count = length-row (length es) f in
        let many = length-map graph.nodes (node_object set graph) in
        objects_are s.classes v es empty.stands.lies
        ∙ ext_get_or no_object (row (length es) f) (map (node_object set graph) graph.nodes)
        (omega (arith, count, long, nodes, many)) (λ n inside.
        let lt : n < length lines = omega (arith, inside, count, long) in
        let below : n < length graph.nodes = omega (arith, lt, nodes) in
        get_or-row (length es) f n no_object (omega (arith, inside, count))
        ∙ ap (object_of s.classes v) (opening_at memory lines n lt)
        ∙ object_shown n lt
        ∙ object_is_node set graph is.is_opening n below
        ∙ sym (get_or-map (node_object set graph) graph.nodes n no_node no_object below))
