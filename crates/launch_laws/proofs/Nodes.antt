-- The nodes of an opened image in the table of a first machine.
use Rattle.std.proofs.Common.{◌≡◌, inl, inr, ℕ, suc, ◌+◌, ◌*◌, ◌%◌, ◌/◌, ◌<◌, ◌≤◌, ◌^◌, true, false, List, [], ◌∷◌, length}
use Rattle.std.proofs.Common.{Some, refl, ap, sym, ◌∙◌, subst, arith, slice_index_or}
use Rattle.std.specs.Prelude.{slice_index}
use Rattle.std.proofs.lemmas.Bool.{cases_lt}
use Rattle.std.proofs.lemmas.List.{get_or-map, length-map}
use Rattle.std.proofs.lemmas.List.Elements.{All-get_or}
use Rattle.ap_base.specs.declared.kind.Kind.{Kind}
use Rattle.ap_base.specs.declared.kind.Kind.TheVariants.{Z, B, C, S, I, J, L, Text}
use Rattle.graph_model.specs.declared.types.Shape.{Shape}
use Rattle.graph_model.specs.declared.types.Heap.{Heap}
use Rattle.graph_model.specs.declared.types.Value.{Value}
use Rattle.graph_model.specs.declared.types.Value.TheVariants.{Null}
use Rattle.graph_model.specs.Heaps.{no_shape, values_of}
use Rattle.line_memory.specs.Memory.{Memory, shown}
use Rattle.image_layout.specs.Places.{first_object_line, lines_of}
use Rattle.image_meaning.specs.Checks.{Words}
use Rattle.image_meaning.specs.Objects.{is_number, shape_number, length_at, shape_of, kind_of, object_slot}
use Rattle.image_meaning.specs.Corresponds.{LiesAt, Corresponds, IsObject, Holds}
use Rattle.image_meaning.specs.Opening.{found_at, free_line}
use Rattle.plain_model.specs.Classes.{ClassFacts, no_class}
use Rattle.plain_model.specs.Facts.{classes_of, shapes_of}
use Rattle.plain_model.specs.First.{first_heap, class_named}
use Rattle.shared_objects.specs.Shown.{kind_in}
use Rattle.twin_forms.specs.Table.{Entry, entry, View, InP, kind_at, word_of, is_reference}
use Rattle.twin_forms.specs.Sights.{view_of}
use Rattle.twin_forms.proofs.Led.{word_moved}
use Rattle.twin_heap.proofs.Reading.{spot_is}
use Rattle.two_spaces.proofs.Finding.{class_kind}
use Rattle.machine_laws.specs.Passed.{Opening, Machine, memory_of}
use Rattle.machine_laws.specs.Passed.{IsOfDirectory, HoldsNumbers}
use Rattle.machine_laws.specs.Opened.{IsTableOf}
use Rattle.machine_laws.proofs.Holding.{kind_there}
use Rattle.machine_laws.proofs.StopTables.{placed_there}
use Rattle.first_spaces.specs.Beginnings.{HasNumbers, IsNodeAt}
use Rattle.first_spaces.proofs.Holding.{first_holds}
use Rattle.launch_laws.specs.First.{IsFirstMachine, IsOfClass}

-- ---- numbers

-- a word that holds what no reference is holds a number
number_held : (R : LiesAt) (kind : Kind) (w : ℕ) (value : Value) → is_reference (Some kind) ≡ false
    → Holds R kind w value → is_number kind w ≡ true
number_held R Z w value plain holds = holds.0
number_held R B w value plain holds = holds.0
number_held R C w value plain holds = holds.0
number_held R S w value plain holds = holds.0
number_held R I w value plain holds = holds.0
number_held R J w value plain holds = holds.0
number_held R L w value plain holds = absurd (let no = plain in cc)
number_held R Text w value plain holds = holds.0

-- ---- the first line that is left

pub front_before_free : (words : Words) (lines : List ℕ) → first_object_line ≤ free_line words lines
front_before_free words [] = omega arith
front_before_free words (line ∷ lines) = let rest = front_before_free words lines in omega (arith, rest)

pub free_within : (words : Words) (size : ℕ) (lines : List ℕ) → first_object_line ≤ size
    → ((n : ℕ) → n < length lines
    → slice_index lines n + lines_of (length_at words (slice_index lines n)) ≤ size)
    → free_line words lines ≤ size
free_within words size [] front each = front
free_within words size (line ∷ lines) front each =
    let here = each 0 (omega arith) in
    let rest = free_within words size lines front (λ n lt. each (suc n) (omega (arith, lt))) in
    omega (arith, here, rest)

module _ (o : Opening) (lines : List ℕ) (m : Machine) (es : List Entry)
    (first : IsFirstMachine o lines m es) where
  abbrev pub heap : Heap
  heap = first_heap o.launch.set o.launch.opening

  abbrev v : View
  v = view_of m.spaces.twin

  abbrev words : Words
  words = shown o.start

  pub corresponds : Corresponds (found_at lines) o.directory o.start.size (shown o.start) heap
  corresponds =
      first.image.opened.corresponds heap (first_holds o.launch.set o.launch.opening first.launched.opening)

  -- ---- shapes

  shapes_are : m.spaces.shapes ≡ shapes_of o.launch.set
  unfolding first_heap
  shapes_are = ap (λ (h : Heap). h.shapes) first.shows.heap

  abbrev shape_in : ℕ → Shape
  shape_in k = slice_index_or o.directory.shapes k no_shape

  class_shape : (k : ℕ) → k < length o.directory.shapes
      → slice_index m.spaces.classes k < length m.spaces.shapes
      → shape_in k ≡ slice_index_or m.spaces.shapes (slice_index m.spaces.classes k) no_shape
  class_shape k lt there =
      let set = o.launch.set in
      let c = class_named (classes_of set) (shape_in k).name in
      let named : slice_index m.spaces.classes k ≡ c = first.directory.named k lt in
      let at_class = get_or-map (λ (x : ClassFacts). x.shape) (classes_of set) c no_class no_shape in
      let long : length m.spaces.shapes ≡ length (classes_of set) =
      ap (λ (ss : List Shape). length ss) shapes_are
      ∙ length-map (classes_of set) (λ (x : ClassFacts). x.shape) in
      let below : c < length (classes_of set) = omega (arith, named, there, long) in
      All-get_or (IsOfClass set) o.directory.shapes k no_shape lt first.directory.classes below
      ∙ sym (ap (λ (ss : List Shape). slice_index_or ss (slice_index m.spaces.classes k) no_shape) shapes_are
      ∙ ap (λ (j : ℕ). slice_index_or (shapes_of set) j no_shape) named ∙ at_class below)

  pub of_directory : IsOfDirectory o.directory m.spaces
  of_directory = record { many = first.directory.many; shapes = class_shape }

  -- ---- the table

  module _ (n : ℕ) (lt : n < length lines) where
    abbrev e : Entry
    e = entry es n

    abbrev line : ℕ
    line = slice_index lines n

    is_node : IsNodeAt line e
    is_node = first.table.nodes n lt

    pub node_there : n < length es
    node_there = placed_there es n (let stage = is_node.stage in omega (arith, stage))

    pub node_durable : InP es n
    node_durable = (node_there, (let stage = is_node.stage in omega (arith, stage)), is_node.owner)

    pub object : IsObject (found_at lines) o.directory.shapes o.start.size (shown o.start) heap line n
    object = corresponds.objects line n (lt, refl)

    -- the words of the memory at its lines
    word_at : (p l w : ℕ) → p ≡ 8 * l + w → w < 8 → v.shown p ≡ words l w
    word_at p l w is small =
        spot_is (memory_of m) p l w is small ∙ ap (λ (x : Memory). shown x l w) first.memory

    head_is : words line 0 ≡ e.shape + 2 ^ 32 * e.slots
    head_is =
        let at_line = is_node.line_is in
        sym (word_at (8 * e.line) line 0 (omega (arith, at_line)) (omega arith))
        ∙ (first.table.stands.lies.sits n node_there).copy_head
        (let stage = is_node.stage in omega (arith, stage))

    shape_is : shape_number words line ≡ e.shape
    shape_is =
        let table = first.table.stands.lies.table in
        let few = table.few_shapes in
        let below = table.shape_in n node_there in
        omega (arith, head_is, few, below)

    slots_are : length_at words line ≡ e.slots
    slots_are =
        let table = first.table.stands.lies.table in
        let few = table.few_shapes in
        let below = table.shape_in n node_there in
        omega (arith, head_is, few, below)

    pub node_within : line + lines_of (length_at words line) ≤ o.start.size
    node_within = let high = object.high in let count = object.count in omega (arith, high, count)

    abbrev shape : Shape
    shape = shape_of o.directory.shapes words line

    shape_same : shape ≡ slice_index_or m.spaces.shapes (slice_index m.spaces.classes e.shape) no_shape
    shape_same = ap (λ k. shape_in k) shape_is
        ∙ class_shape e.shape (first.table.shapes n node_there) (first.table.stands.classed n node_there)

    module _ (k : ℕ) (inside : k < e.slots) where
      counted : k < length (values_of heap n)
      counted = let count = object.count in omega (arith, inside, count, slots_are)

      kind_is : kind_at v e k ≡ Some (kind_of shape k)
      kind_is = class_kind m.spaces es n k first.table.stands node_there
          ∙ ap (λ (x : Shape). kind_in x k) (sym shape_same)
          ∙ kind_there shape (length (values_of heap n)) k object.full counted

      word_is : word_of v e k ≡ object_slot words line k
      word_is =
          let at_line = is_node.line_is in
          word_moved v e k (let stage = is_node.stage in omega (arith, stage))
          ∙ word_at (8 * e.line + 1 + k) (line + (k + 1) / 8) ((k + 1) % 8) (omega (arith, at_line))
          (omega arith)

      holds : Holds (found_at lines) (kind_of shape k) (object_slot words line k)
          (slice_index_or (values_of heap n) k Null)
      holds = object.slots k counted refl

      number_there : (kind : Kind) → kind_at v e k ≡ Some kind → is_reference (Some kind) ≡ false
          → is_number kind (word_of v e k) ≡ true
      number_there kind is plain =
          let both : Some (kind_of shape k) ≡ Some kind = sym kind_is ∙ is in
          let same : kind_of shape k ≡ kind = cc in
          let value = slice_index_or (values_of heap n) k Null in
          let held = subst (λ x. Holds (found_at lines) x (object_slot words line k) value) same holds in
          subst (λ w. is_number kind w ≡ true) (sym word_is)
          (number_held (found_at lines) kind (object_slot words line k) value plain held)

    pub node_numbers : HasNumbers m.spaces e
    node_numbers k kind inside is plain = number_there k inside kind is plain

  -- an object is a node, or an ordinary one
  pub by_place : (P : Entry → Type 0) → ((n : ℕ) → n < length lines → P (entry es n))
      → ((n : ℕ) → length lines ≤ n → n < length es → P (entry es n))
      → (n : ℕ) → n < length es → P (entry es n)
  by_place P node other n ln = elim (cases_lt n (length lines)) [
    | inl lt ↦ node n lt
    | inr le ↦ other n le ln
  ]

  pub nobody_owns : (n : ℕ) → n < length es → (entry es n).owner ≡ 0
  nobody_owns = by_place (λ x. x.owner ≡ 0) (λ n lt. (is_node n lt).owner)
      (λ n le ln. (first.table.others n le ln).owner)

  pub numbers_held : HoldsNumbers m.spaces es
  numbers_held n k kind ln inside is plain =
      by_place (HasNumbers m.spaces) node_numbers first.table.numbers n ln k kind inside is plain

  durable_below : (n : ℕ) → InP es n → n < length lines
  durable_below n p = elim (cases_lt n (length lines)) [
    | inl lt ↦ lt
    | inr le ↦ absurd (
        let old = (first.table.others n le p.0).stage in let moved = p.1 in omega (arith, old, moved))
  ]

  pub table_of_lines : IsTableOf lines es
  table_of_lines = record {
    durable = λ n. (durable_below n, λ lt. node_durable n lt);
    at = λ n lt. (is_node n lt).line_is;
  }

  -- ---- lines

  pub free_front : first_object_line ≤ m.free
  free_front = subst (λ free. first_object_line ≤ free) (sym first.free) (front_before_free words lines)

  pub free_inside : m.free ≤ o.start.size
  free_inside = subst (λ free. free ≤ o.start.size) (sym first.free)
      (free_within words o.start.size lines (let long = first.image.size in omega (arith, long)) node_within)
