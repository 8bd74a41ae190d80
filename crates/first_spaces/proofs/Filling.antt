-- The heap that has been given its first volatile objects and its static fields.
use Rattle.std.proofs.Common.{◌≡◌, ◌⊎◌, inl, inr, ℕ, zero, suc, ◌+◌, ◌-◌, ◌*◌, ◌/◌, ◌%◌, ◌<◌, ◌≤◌, Bool, true, false, List, []}
use Rattle.std.proofs.Common.{◌∷◌, ◌++◌, map, drop, length, slice_index_or, Option, Some, None, refl, ap, ◌∙◌, sym, subst}
use Rattle.std.proofs.Common.{arith, length-append, if◌then◌else◌}
use Rattle.std.specs.Prelude.{slice_index, sum_by}
use Rattle.std.specs.Option.{option_map}
use Rattle.std.proofs.lemmas.Bool.{cases_lt}
use Rattle.std.proofs.lemmas.List.{ext_get_or, length-map, get_or-map, get_or_append_left, get_or_past}
use Rattle.ap_base.specs.declared.kind.Kind.{Kind}
use Rattle.ap_base.specs.declared.kind.Kind.TheVariants.{I, L}
use Rattle.ap_base.specs.declared.reference.Ref.{Ref}
use Rattle.ap_base.specs.declared.reference.Ref.TheVariants.{Null as NoRef}
use Rattle.ap_base.specs.declared.reference.Item.TheVariants.{Ref as RefItem}
use Rattle.graph_model.specs.declared.types.Graph.{Graph}
use Rattle.graph_model.specs.declared.types.Heap.{Heap}
use Rattle.graph_model.specs.declared.types.NamedValue.{NamedValue}
use Rattle.graph_model.specs.declared.types.Obj.{Obj}
use Rattle.graph_model.specs.declared.types.Root.{Root}
use Rattle.graph_model.specs.declared.types.Shape.{Shape}
use Rattle.graph_model.specs.declared.types.Value.{Value}
use Rattle.graph_model.specs.declared.types.Value.TheVariants.{Null, Obj as Object}
use Rattle.graph_model.specs.Heaps.{default_of, no_object}
use Rattle.line_memory.specs.Memory.{Memory, shown}
use Rattle.image_layout.specs.Places.{first_object_line, lines_of as image_lines}
use Rattle.image_meaning.specs.Checks.{Words}
use Rattle.image_meaning.specs.Corresponds.{HoldsReference, root_value_at}
use Rattle.image_meaning.specs.Directories.{Directory}
use Rattle.image_meaning.specs.Meaning.{root_word as image_root}
use Rattle.image_meaning.specs.Objects.{length_at}
use Rattle.image_meaning.specs.Opening.{found_at, free_line}
use Rattle.plain_model.specs.Facts.{Constant, IntConstant, LiteralConstant, LongConstant, SetFacts, StaticFacts}
use Rattle.plain_model.specs.Facts.{arguments_class, shapes_of, stream_class, string_number}
use Rattle.plain_model.specs.First.{constant_value, first_heap, first_objects, first_statics, lacking_roots, literal_object}
use Rattle.plain_model.specs.First.{node_object, static_value as plain_value}
use Rattle.plain_model.specs.Kinds.{narrowed}
use Rattle.plain_model.specs.Limits.{words_of, words_taken}
use Rattle.shared_objects.specs.Shown.{number_value}
use Rattle.shared_objects.specs.Worlds.{heap_of}
use Rattle.one_space.specs.First.{constant_now, text_object}
use Rattle.twin_forms.specs.Sights.{view_of}
use Rattle.twin_forms.specs.Table.{Entry, Lies, View, entry, lines_of}
use Rattle.twin_heap.specs.Here.{opened, opening}
use Rattle.twin_heap.proofs.Opens.{opening_at, opening_long}
use Rattle.two_spaces.specs.declared.spaces.Static.{Static}
use Rattle.two_spaces.specs.declared.spaces.Static.TheVariants as static
use Rattle.two_spaces.specs.Laws.{null_is_no_object}
use Rattle.two_spaces.specs.Seen.{Spaces, root_word, shown_of, static_value}
use Rattle.two_spaces.specs.Whole.{IsAlone, IsStatic, Stands, no_static}
use Rattle.two_spaces.proofs.Shifting.{object_is, objects_long}
use Rattle.two_spaces.proofs.Valuing.{item_shown, item_to, known_by}
use Rattle.first_spaces.specs.declared.parts.FirstField.{FirstField}
use Rattle.first_spaces.specs.declared.parts.FirstField.TheVariants as field
use Rattle.first_spaces.specs.declared.parts.FirstObjects.{FirstObjects}
use Rattle.first_spaces.specs.declared.parts.SpacesParts.{SpacesParts}
use Rattle.first_spaces.specs.Beginnings.{IsNodeAt, RootsLieInSlots, ShowsOpening, StandFor, StandsOpened}
use Rattle.first_spaces.specs.Filled.{IsEmpty, IsFilled}
use Rattle.first_spaces.specs.Growing.{IsNew, Lengthens}
use Rattle.first_spaces.specs.Items.{BeginsAs, no_field, value_from}
use Rattle.first_spaces.specs.Parts.{IsBeginning, home_now, homes, volatile_objects}
use Rattle.first_spaces.specs.Slots.{BesideHeap, InSlot, IsRootAt, Home, no_root, home_of, slot_named, slot_of}
use Rattle.first_spaces.proofs.Nodes.{corresponds, node, nodes_shown, at_lines}
use Rattle.first_spaces.proofs.Rooting.{never_first, homes_are}
use Rattle.first_spaces.proofs.Values.{AtLines, held_reference, line_ref, shown_reference}

-- ---- lines

-- each of these objects ends at or below the first line behind them all
ends_below : (words : Words) (lines : List ℕ) (n : ℕ) → n < length lines
    → slice_index lines n + image_lines (length_at words (slice_index lines n)) ≤ free_line words lines
ends_below words [] n lt = absurd (omega (arith, lt))
ends_below words (l ∷ ls) zero lt = omega arith
ends_below words (l ∷ ls) (suc n) lt = let more = ends_below words ls n (omega (arith, lt)) in omega (
  arith,
  more,
)

-- ---- lists

drop_front : (xs ys : List Obj) → drop (length xs) (xs ++ ys) ≡ ys
drop_front [] ys = refl
drop_front (x ∷ xs) ys = drop_front xs ys

behind_front : (xs ys : List Obj) (n : ℕ) → slice_index_or (xs ++ ys) (length xs + n) no_object ≡
    slice_index_or ys n no_object
behind_front [] ys n = let e : 0 + n ≡ n = omega arith in ap (λ k. slice_index_or ys k no_object) e
behind_front (x ∷ xs) ys n =
    let e : suc (length xs) + n ≡ suc (length xs + n) = omega arith in
    ap (λ k. slice_index_or (x ∷ xs ++ ys) k no_object) e ∙ behind_front xs ys n

home_behind : (xs ys : List Home) (n : ℕ)
    → slice_index_or (xs ++ ys) (length xs + n) (BesideHeap I None) ≡ slice_index_or ys n (BesideHeap I None)
home_behind [] ys n = let e : 0 + n ≡ n = omega arith in ap (λ k. slice_index_or ys k (BesideHeap I None)) e
home_behind (x ∷ xs) ys n =
    let e : suc (length xs) + n ≡ suc (length xs + n) = omega arith in
    ap (λ k. slice_index_or (x ∷ xs ++ ys) k (BesideHeap I None)) e ∙ home_behind xs ys n

abbrev none_named : NamedValue
none_named = record { name = []; value = Null }

-- ---- objects

-- the shape that the heap has for the class of each volatile object is the directory's
volatile_shapes : (P : ℕ → Type 0) (objects : FirstObjects) → P objects.stream → P objects.arguments → P
    objects.string
    → (j : ℕ) → j < length (volatile_objects objects) → P (slice_index_or (volatile_objects objects) j
    no_object).shape
volatile_shapes P objects s a t zero lt = s
volatile_shapes P objects s a t (suc zero) lt = a
volatile_shapes P objects s a t (suc (suc j)) lt =
    let few : j < length objects.literals = (let long = length-map objects.literals (text_object
    objects.string) in omega (arith, lt, long)) in
    subst (λ (o : Obj). P o.shape) (sym (get_or-map (text_object objects.string) objects.literals j []
    no_object few)) t

module _ (set : SetFacts) (graph : Graph) (directory : Directory) (parts : SpacesParts) (lines : List ℕ)
    (memory : Memory)
    (is : IsBeginning set graph directory parts lines memory) (words : ℕ) (a b : Spaces) (arguments : Ref)
    (literals : List Ref) (empty : IsEmpty parts.tables lines words memory a)
    (filled : IsFilled parts.objects parts.statics a b arguments literals) where
  abbrev heap : Heap
  heap = first_heap set graph

  abbrev v : View
  v = view_of b.twin

  abbrev before : Spaces
  before = record b { statics = a.statics }

  abbrev volatile : List Obj
  volatile = volatile_objects parts.objects

  abbrev nodes : List Obj
  nodes = map (node_object set graph) graph.nodes

  nodes_are : (shown_of a).objects ≡ nodes
  nodes_are = nodes_shown set graph directory parts lines memory is words a empty

  nodes_long : length (shown_of a).objects ≡ length graph.nodes
  nodes_long = ap (λ (os : List Obj). length os) nodes_are ∙ length-map graph.nodes (node_object set graph)

  memory_is : b.twin.memory ≡ memory
  memory_is = filled.grown.spares.memory ∙ empty.memory_is

  -- ---- the table

  abbrev old_table : List Entry
  old_table = opening memory lines

  table : List Entry
  table = (filled.grown.table old_table empty.stands).0

  stands_before : Stands before table
  unfolding table
  stands_before = (filled.grown.table old_table empty.stands).1

  lengthens : Lengthens a old_table before table
  unfolding table
  lengthens = (filled.grown.table old_table empty.stands).2

  lies : Lies v table
  lies = stands_before.lies

  old_long : length old_table ≡ length lines
  old_long = opening_long memory lines

  old_there : (n : ℕ) → n < length lines → n < length old_table
  old_there n lt = omega (arith, lt, old_long)

  node_entry : (n : ℕ) → n < length lines → entry table n ≡ opened memory (slice_index lines n)
  node_entry n lt = lengthens.old n (old_there n lt) ∙ opening_at memory lines n lt

  lines_here : AtLines lines table
  lines_here n lt =
      let at = at_lines set graph directory parts lines memory is n lt in
      let e = lengthens.old n (old_there n lt) in
      let there = old_there n lt in
      let long = lengthens.long in (
        omega (arith, there, long),
        subst (λ (x : Entry). 1 < x.stage) (sym e) at.1,
        ap (λ (x : Entry). x.line) e ∙ at.2,
        at.3,
      )

  -- ---- root slots

  root_is : (slot : ℕ) → root_word v slot ≡ image_root (shown memory) slot
  root_is slot =
      let at_line : (8 + slot) / 8 ≡ 1 + slot / 8 = omega arith in
      let at_word : (8 + slot) % 8 ≡ slot % 8 = omega arith in
      ap (λ m. shown m ((8 + slot) / 8) ((8 + slot) % 8)) memory_is
      ∙ ap (λ l. shown memory l ((8 + slot) % 8)) at_line
      ∙ ap (shown memory (1 + slot / 8)) at_word

  root_holds : (slot : ℕ) → slot < length heap.roots
      → HoldsReference (found_at lines) (root_word v slot) (root_value_at heap slot)
  root_holds slot lt =
      subst (λ w. HoldsReference (found_at lines) w (root_value_at heap slot)) (sym (root_is slot))
      ((corresponds set graph directory parts lines memory is).at_roots slot lt)

  root_at_static : (slot f : ℕ) → IsRootAt heap.roots slot f → root_value_at heap slot ≡ slice_index_or
      heap.statics f Null
  root_at_static slot f root =
      get_or-map (λ (r : Root). slice_index_or heap.statics r.at Null) heap.roots slot no_root Null root.there
      ∙ ap (λ n. slice_index_or heap.statics n Null) root.at

  -- ---- how static fields begin

  abbrev fields : List FirstField
  fields = parts.statics

  abbrev no_home : Home
  no_home = BesideHeap I None

  number_null : (shown_of b).number NoRef ≡ None
  number_null = null_is_no_object v

  begins : (k : ℕ) → k < length fields
      → BeginsAs (shown_of b).number (2 + length (shown_of a).objects) (slice_index_or fields k no_field)
      (slice_index_or b.statics (suc k) no_static)
  begins k lt =
      filled.statics_are.each k lt (shown_of b).number (2 + length (shown_of a).objects) number_null
      filled.literals_are

  home_at : (k : ℕ) → k < length fields
      → home_now (slice_index_or fields k no_field) ≡ slice_index_or (homes set graph) k no_home
  home_at k lt =
      sym (get_or-map home_now fields k no_field no_home lt)
      ∙ ap (λ ps. slice_index_or ps k no_home) is.are_parts.statics

  homes_long : length fields ≡ length (homes set graph)
  homes_long =
      sym (length-map fields home_now) ∙ ap (λ (ps : List Home). length ps) is.are_parts.statics

  statics_long : length b.statics ≡ suc (length fields)
  statics_long = filled.statics_are.long

  -- ---- root slots of static fields

  forth_at : (f : FirstField) (s : Static) (slot : ℕ) → BeginsAs (shown_of b).number (2 + length (shown_of
      a).objects) f s
      → s ≡ static.Root slot → home_now f ≡ InSlot slot
  forth_at (field.Beside first) (static.Beside item) slot begun e =
      absurd (let bad : static.Beside item ≡ static.Root slot = e in cc)
  forth_at (field.Beside first) (static.Root other) slot begun e = absurd begun
  forth_at (field.Root own) (static.Beside item) slot begun e = absurd begun
  forth_at (field.Root own) (static.Root other) slot begun e =
      let same : other ≡ slot = (let it : static.Root other ≡ static.Root slot = e in cc) in
      ap InSlot (sym begun ∙ same)

  back_at : (f : FirstField) (s : Static) (slot : ℕ) → BeginsAs (shown_of b).number (2 + length (shown_of
      a).objects) f s
      → home_now f ≡ InSlot slot → s ≡ static.Root slot
  back_at (field.Beside first) (static.Beside item) slot begun e =
      absurd (let bad : BesideHeap first.kind (option_map constant_now first.constant) ≡ InSlot slot = e in
      cc)
  back_at (field.Beside first) (static.Root other) slot begun e = absurd begun
  back_at (field.Root own) (static.Beside item) slot begun e = absurd begun
  back_at (field.Root own) (static.Root other) slot begun e =
      let same : own ≡ slot = (let it : InSlot own ≡ InSlot slot = e in cc) in
      ap static.Root (begun ∙ same)

  slot_forth : (k slot : ℕ) → slice_index_or b.statics (suc k) no_static ≡ static.Root slot
      → slice_index_or (homes set graph) k no_home ≡ InSlot slot
  slot_forth k slot e = elim (cases_lt k (length fields)) [
    | inl lt ↦ sym (home_at k lt)
        ∙ forth_at (slice_index_or fields k no_field) (slice_index_or b.statics (suc k) no_static) slot
        (begins k lt) e
    | inr past ↦ absurd (let none = get_or_past b.statics (suc k) no_static (omega (
      arith,
      past,
      statics_long,
    )) in
        let bad : no_static ≡ static.Root slot = sym none ∙ e in cc)
  ]

  slot_back : (k slot : ℕ) → slice_index_or (homes set graph) k no_home ≡ InSlot slot
      → slice_index_or b.statics (suc k) no_static ≡ static.Root slot
  slot_back k slot e = elim (cases_lt k (length fields)) [
    | inl lt ↦ back_at (slice_index_or fields k no_field) (slice_index_or b.statics (suc k) no_static) slot
        (begins k lt)
        (home_at k lt ∙ e)
    | inr past ↦ absurd (let none = get_or_past (homes set graph) k no_home (omega (arith, past, homes_long))
        in
        let bad : no_home ≡ InSlot slot = sym none ∙ e in cc)
  ]

  pub roots_lie : RootsLieInSlots heap.roots b.statics
  roots_lie zero slot = (
    λ e. absurd (let bad : static.Beside (RefItem filled.stream) ≡ static.Root slot = sym
        filled.statics_are.stream_is ∙ e in cc),
    λ root. absurd (never_first set graph is.is_opening is.are_parts.roots_differ slot root),
  )
  roots_lie (suc k) slot =
      let both = homes_are set graph is.is_opening is.are_parts.roots_differ k slot in (
        λ e. both.0 (slot_forth k slot e),
        λ root. slot_back k slot (both.1 root),
      )

  -- ---- the heap is whole

  root_stands : (slot f : ℕ) → IsRootAt heap.roots slot f → IsStatic b table (static.Root slot)
  root_stands slot f root =
      let few = (corresponds set graph directory parts lines memory is).few in
      let there = root.there in
      let held = held_reference lines (root_word v slot) (root_value_at heap slot) (root_holds slot there) in (
        omega (arith, few, there),
        even (root_word v slot) held,
        line_ref lines table (root_word v slot)
            lines_here held,
      )
    where
      even : (w : ℕ) → (w ≡ 0) ⊎ ((i : ℕ) × (i < length lines) × (w ≡ 2 * slice_index lines i)) → w % 2 ≡ 0
      even w (inl none) = omega (arith, none)
      even w (inr x) = let e = x.2 in omega (arith, e)

  field_stands : (f : FirstField) (s : Static) → BeginsAs (shown_of b).number (2 + length (shown_of
      a).objects) f s
      → ((slot : ℕ) → s ≡ static.Root slot → IsStatic b table (static.Root slot)) → IsStatic b table s
  field_stands (field.Beside first) (static.Beside item) begun root = item_to v table item lies begun.known
  field_stands (field.Beside first) (static.Root other) begun root = absurd begun
  field_stands (field.Root own) (static.Beside item) begun root = absurd begun
  field_stands (field.Root own) (static.Root other) begun root = root other refl

  static_stands : (f : ℕ) → f < length b.statics → IsStatic b table (slice_index_or b.statics f no_static)
  static_stands zero lt =
      subst (IsStatic b table) (sym filled.statics_are.stream_is)
      (item_to v table (RefItem filled.stream) lies (known_by v filled.stream (length (shown_of a).objects)
      filled.stream_is))
  static_stands (suc k) lt =
      field_stands (slice_index_or fields k no_field) (slice_index_or b.statics (suc k) no_static)
      (begins k (omega (arith, lt, statics_long))) (λ slot e. root_stands slot (suc k) ((roots_lie (suc k)
      slot).0 e))

  static_alone : (f : ℕ) (s : Static) → slice_index_or b.statics f no_static ≡ s → IsAlone b.statics f s
  static_alone f (static.Beside item) e = tt
  static_alone f (static.Root slot) e = λ g lt ne here.
      ne (sym ((roots_lie g slot).0 here).at ∙ ((roots_lie f slot).0 e).at)

  stands : Stands b table
  stands = record {
    lies = lies;
    behind = stands_before.behind;
    classes = stands_before.classes;
    classed = stands_before.classed;
    statics = static_stands;
    alone = λ f lf. static_alone f (slice_index_or b.statics f no_static) refl;
  }

  new_entry : (n : ℕ) → length lines ≤ n → n < length table → IsNew a.classes a.numbers (entry table n)
  new_entry n from lt = lengthens.new n (omega (arith, from, old_long)) lt

  -- the class of an object that isn't a node
  objects_before : (shown_of before).objects ≡ (shown_of a).objects ++ volatile
  objects_before = filled.grown.objects

  new_class : (n j : ℕ) → length (shown_of a).objects + j ≡ n → n < length table
      → slice_index a.classes (entry table n).shape ≡ (slice_index_or volatile j no_object).shape
  new_class n j sum lt =
      ap (λ cs. slice_index cs (entry table n).shape) (sym filled.grown.spares.classes.classes)
      ∙ sym (ap (λ (o : Obj). o.shape) (object_is b.classes v table n lies lt))
      ∙ ap (λ (os : List Obj). (slice_index_or os n no_object).shape) objects_before
      ∙ ap (λ k. (slice_index_or ((shown_of a).objects ++ volatile) k no_object).shape) (sym sum)
      ∙ ap (λ (o : Obj). o.shape) (behind_front (shown_of a).objects volatile j)

  new_shape : (n : ℕ) → length lines ≤ n → n < length table → (entry table n).shape < length directory.shapes
  new_shape n from lt =
      let objects = is.are_parts.objects in
      let ns = empty.tables_are.numbers in
      let nodes_count = is.is_opened.nodes in
      let j = n - length (shown_of a).objects in
      let sum : length (shown_of a).objects + j ≡ n = omega (arith, from, nodes_long, nodes_count) in
      let all : length (shown_of before).objects ≡ length table = objects_long b.classes v table lies in
      let many = ap (λ (os : List Obj). length os) objects_before in
      let two = length-append (shown_of a).objects volatile in
      let below : j < length volatile = omega (arith, sum, lt, all, many, two) in
      let there : slice_index a.numbers (slice_index_or volatile j no_object).shape < length directory.shapes
      =
      volatile_shapes (λ c. slice_index a.numbers c < length directory.shapes) parts.objects
      (rw ns objects.stream_there) (rw ns objects.arguments_there) (rw ns objects.string_there) j below in
      subst (λ x. x < length directory.shapes)
      (sym ((new_entry n from lt).shape ∙ ap (slice_index a.numbers) (new_class n j sum lt))) there

  no_line : (n : ℕ) → length lines ≤ n → n < length table → 0 < (entry table n).stage → ⊥
  no_line n from lt placed = let none = (new_entry n from lt).stage in omega (arith, none, placed)

  table_high : (n : ℕ) → n < length table → 0 < (entry table n).stage
      → (entry table n).line + lines_of (entry table n) ≤ free_line (shown memory) lines
  table_high n lt placed = elim (cases_lt n (length lines)) [
    | inl below ↦ subst (λ (x : Entry). x.line + lines_of x ≤ free_line (shown memory) lines) (sym (node_entry
        n below))
        (let ends = ends_below (shown memory) lines n below in omega (arith, ends))
    | inr past ↦ absurd (no_line n past lt placed)
  ]

  pub whole : (es : List Entry) × StandsOpened directory lines b es
  whole = (
    table,
    record {
      stands = stands;
      nodes = λ n lt. subst (IsNodeAt (slice_index lines n)) (sym (node_entry n lt))
          (record { stage = refl; owner = refl; line_is = refl });
      others = λ n from lt. let e = new_entry n from lt in record { stage = e.stage; owner = e.owner };
      low = λ n lt placed. elim (cases_lt n (length lines)) [
        | inl below ↦ subst (λ (x : Entry). first_object_line ≤ x.line) (sym (node_entry n below))
            (node set graph directory parts lines memory is n below).low
        | inr past ↦ absurd (no_line n past lt placed)
      ];
      high = λ n lt placed. subst (λ m. (entry table n).line + lines_of (entry table n) ≤ free_line (shown m)
          lines)
          (sym memory_is) (table_high n lt placed);
      shapes = λ n lt. elim (cases_lt n (length lines)) [
        | inl below ↦ subst (λ (x : Entry). x.shape < length directory.shapes) (sym (node_entry n below))
            (node set graph directory parts lines memory is n below).known
        | inr past ↦ new_shape n past lt
      ];
      numbers = lengthens.numbers (length lines) (λ n from lt. absurd (omega (arith, from, lt, old_long)));
    },
  )

  -- ---- what it shows

  volatile_are : volatile ≡ record { shape = stream_class set; values = [] } ∷ record {
    shape =
        arguments_class set;
    values = [];
  }
      ∷ map (literal_object set graph) set.literals
  volatile_are =
      let objects = is.are_parts.objects in
      let make : ℕ → ℕ → ℕ → List (List ℕ) → List Obj = λ s g c texts.
      record { shape = s; values = [] } ∷ record { shape = g; values = [] } ∷ map (text_object c) texts in
      ap (λ s. make s parts.objects.arguments parts.objects.string parts.objects.literals) objects.stream_is
      ∙ ap (λ g. make (stream_class set) g parts.objects.string parts.objects.literals) objects.arguments_is
      ∙ ap (λ c. make (stream_class set) (arguments_class set) c parts.objects.literals) objects.string_is
      ∙ ap (make (stream_class set) (arguments_class set) (string_number set)) objects.literals_are

  objects_are : (shown_of b).objects ≡ first_objects set graph
  objects_are =
      objects_before ∙ ap (λ (os : List Obj). os ++ volatile) nodes_are ∙ ap (λ (os : List Obj). nodes ++ os)
      volatile_are

  abbrev own_values : List Value
  own_values = map (plain_value set graph) set.statics

  abbrev other_values : List Value
  other_values = map (λ (r : NamedValue). r.value) (lacking_roots set graph)

  abbrev no_facts : StaticFacts
  no_facts = record { class = 0; name = []; kind = I; is_root = false; constant = None }

  abbrev fact : ℕ → StaticFacts
  fact k = slice_index_or set.statics k no_facts

  home_kind : Home → Kind
  home_kind (BesideHeap kind c) = kind
  home_kind (InSlot slot) = I

  home_constant : Home → Option Constant
  home_constant (BesideHeap kind c) = c
  home_constant (InSlot slot) = None

  abbrev literals_from : ℕ
  literals_from = suc (suc (length graph.nodes))

  constant_is : (kind : Kind) (c : Option Constant) → value_from literals_from kind c ≡ (elim c as (λ _.
      Value) [
        | None ↦ default_of kind
        | Some x ↦ narrowed kind (constant_value set graph x)
      ])
  constant_is kind None = refl
  constant_is kind (Some (IntConstant i)) = refl
  constant_is kind (Some (LongConstant i)) = refl
  constant_is kind (Some (LiteralConstant k)) = refl

  own_home : (k : ℕ) → k < length set.statics → slice_index_or (homes set graph) k no_home ≡ home_of
      graph.roots (fact k)
  own_home k lt =
      let long = length-map set.statics (home_of graph.roots) in
      get_or_append_left (map (home_of graph.roots) set.statics) (map (slot_of graph.roots) (lacking_roots set
      graph)) no_home k
      (omega (arith, lt, long))
      ∙ get_or-map (home_of graph.roots) set.statics k no_facts no_home lt

  own_value : (k : ℕ) → k < length set.statics → slice_index_or (first_statics set graph) (suc k) Null ≡
      plain_value set graph (fact k)
  own_value k lt =
      let long = length-map set.statics (plain_value set graph) in
      get_or_append_left own_values other_values Null k (omega (arith, lt, long))
      ∙ get_or-map (plain_value set graph) set.statics k no_facts Null lt

  plain_at : (k : ℕ) (kind : Kind) (c : Option Constant) → k < length fields
      → slice_index_or (homes set graph) k no_home ≡ BesideHeap kind c
      → value_from literals_from kind c ≡ slice_index_or (first_statics set graph) (suc k) Null
  unfolding home_kind home_constant
  plain_at k kind c lt e = elim (cases_lt k (length set.statics)) [
    | inl below ↦ by_root below (fact k).is_root refl (sym (own_home k below) ∙ e)
    | inr past ↦ absurd (beyond (k - length set.statics) (omega (arith, past)))
  ]
    where
      by_root : k < length set.statics → (r : Bool) → (fact k).is_root ≡ r
          → (if r then InSlot (slot_named graph.roots (fact k).name) else BesideHeap (fact k).kind (fact
          k).constant) ≡ BesideHeap kind c
          → value_from literals_from kind c ≡ slice_index_or (first_statics set graph) (suc k) Null
      by_root below true root is_home = absurd (let bad : InSlot (slot_named graph.roots (fact k).name) ≡
          BesideHeap kind c = is_home in cc)
      by_root below false root is_home =
          let same_kind : (fact k).kind ≡ kind = ap home_kind is_home in
          let same_constant : (fact k).constant ≡ c = ap home_constant is_home in
          ap (λ x. value_from literals_from x c) (sym same_kind)
          ∙ ap (value_from literals_from (fact k).kind) (sym same_constant)
          ∙ constant_is (fact k).kind (fact k).constant
          ∙ sym (own_value k below ∙ plain root)
        where
          plain : (fact k).is_root ≡ false → plain_value set graph (fact k) ≡ (elim (fact k).constant as (λ _.
              Value) [
                | None ↦ default_of (fact k).kind
                | Some x ↦ narrowed (fact k).kind (constant_value set graph x)
              ])
          plain no_root_is = rw no_root_is refl

      beyond : (j : ℕ) → length set.statics + j ≡ k → ⊥
      beyond j sum =
          let own = map (home_of graph.roots) set.statics in
          let others = map (slot_of graph.roots) (lacking_roots set graph) in
          let own_long = length-map set.statics (home_of graph.roots) in
          let others_long = length-map (lacking_roots set graph) (slot_of graph.roots) in
          let all = length-append own others in
          let few : j < length (lacking_roots set graph) = omega (
            arith,
            lt,
            homes_long,
            sum,
            own_long,
            others_long,
            all,
          ) in
          let here : slice_index_or (homes set graph) k no_home
          ≡ InSlot (slot_named graph.roots (slice_index_or (lacking_roots set graph) j none_named).name) =
          ap (λ n. slice_index_or (homes set graph) n no_home) (sym sum)
          ∙ ap (λ n. slice_index_or (homes set graph) (n + j) no_home) (sym own_long)
          ∙ home_behind own others j
          ∙ get_or-map (slot_of graph.roots) (lacking_roots set graph) j none_named no_home few in
          let bad : InSlot (slot_named graph.roots (slice_index_or (lacking_roots set graph) j
          none_named).name) ≡ BesideHeap kind c =
          sym here ∙ e in
          cc

  -- what each static field shows
  field_shows : (k : ℕ) (f : FirstField) (s : Static) → k < length fields
      → BeginsAs (shown_of b).number (2 + length (shown_of a).objects) f s
      → home_now f ≡ slice_index_or (homes set graph) k no_home
      → static_value v s ≡ slice_index_or (first_statics set graph) (suc k) Null
  unfolding first_heap
  field_shows k (field.Beside first) (static.Beside item) lt begun here =
      let same : 2 + length (shown_of a).objects ≡ literals_from = omega (arith, nodes_long) in
      begun.value
      ∙ ap (λ n. value_from n first.kind (option_map constant_now first.constant)) same
      ∙ plain_at k first.kind (option_map constant_now first.constant) lt (sym here)
  field_shows k (field.Beside first) (static.Root other) lt begun here = absurd begun
  field_shows k (field.Root own) (static.Beside item) lt begun here = absurd begun
  field_shows k (field.Root own) (static.Root other) lt begun here =
      let both = homes_are set graph is.is_opening is.are_parts.roots_differ k other in
      let root : IsRootAt heap.roots other (suc k) = both.0 (sym here ∙ ap InSlot (sym begun)) in
      let held = root_holds other root.there in
      let w = root_word v other in
      item_shown v table (Some L) w lies
      (λ _. line_ref lines table w lines_here (held_reference lines w (root_value_at heap other) held))
      ∙ shown_reference v table lines w (root_value_at heap other) lies lines_here held
      ∙ root_at_static other (suc k) root

  first_long : length (first_statics set graph) ≡ suc (length (homes set graph))
  first_long =
      let one = length-map set.statics (plain_value set graph) in
      let two = length-map (lacking_roots set graph) (λ (r : NamedValue). r.value) in
      let three = length-map set.statics (home_of graph.roots) in
      let four = length-map (lacking_roots set graph) (slot_of graph.roots) in
      let five = length-append own_values other_values in
      let six = length-append (map (home_of graph.roots) set.statics) (map (slot_of graph.roots)
      (lacking_roots set graph)) in
      omega (arith, one, two, three, four, five, six)

  statics_are : (shown_of b).statics ≡ first_statics set graph
  statics_are =
      let count = length-map b.statics (static_value v) in
      ext_get_or Null (map (static_value v) b.statics) (first_statics set graph)
      (omega (arith, count, statics_long, homes_long, first_long)) (λ f inside.
      let lt : f < length b.statics = omega (arith, inside, count) in
      get_or-map (static_value v) b.statics f no_static Null lt ∙ at_field f lt)
    where
      at_field : (f : ℕ) → f < length b.statics
          → static_value v (slice_index_or b.statics f no_static) ≡ slice_index_or (first_statics set graph) f
          Null
      at_field zero lt =
          ap (static_value v) filled.statics_are.stream_is ∙ ap number_value filled.stream_is ∙ ap Object
          nodes_long
      at_field (suc k) lt =
          let few : k < length fields = omega (arith, lt, statics_long) in
          field_shows k (slice_index_or fields k no_field) (slice_index_or b.statics (suc k) no_static) few
          (begins k few)
          (home_at k few)

  abbrev made_heap : List Shape → List Obj → List Value → Heap
  made_heap ss os vs = record { shapes = ss; objects = os; statics = vs; roots = heap.roots }

  heap_is : heap_of heap.roots (shown_of b) ≡ heap
  unfolding first_heap
  heap_is =
      let shapes = filled.grown.spares.classes.shapes ∙ empty.tables_are.shapes ∙
      is.are_parts.tables.shapes_are in
      ap (λ ss. made_heap ss (shown_of b).objects (shown_of b).statics) shapes
      ∙ ap (λ os. made_heap (shapes_of set) os (shown_of b).statics) objects_are
      ∙ ap (made_heap (shapes_of set) (first_objects set graph)) statics_are

  taken : words_taken graph heap ≡ sum_by words_of volatile
  unfolding first_heap
  taken =
      ap (λ n. sum_by words_of (drop n (first_objects set graph))) (sym (length-map graph.nodes (node_object
      set graph)))
      ∙ ap (λ os. sum_by words_of (drop (length nodes) (nodes ++ os))) (sym volatile_are)
      ∙ ap (sum_by words_of) (drop_front nodes volatile)

  pub shows : ShowsOpening set graph words (shown_of b)
  shows =
      let sum = filled.grown.left in
      let left = empty.left in
      record {
        heap = heap_is;
        within = omega (arith, sum, left, taken);
        left = λ limits e. omega (arith, sum, left, taken, e);
      }

  pub stand_for : StandFor set graph (shown_of b) arguments literals
  stand_for = record {
    arguments_is = filled.arguments_is ∙ ap Some (let e : 1 + length (shown_of a).objects ≡ suc (length
        graph.nodes) = omega (arith, nodes_long) in e);
    long = filled.long ∙ ap (λ (ts : List (List ℕ)). length ts) is.are_parts.objects.literals_are;
    literals_are = λ k lt. filled.literals_are k lt
        ∙ ap Some (let e : 2 + length (shown_of a).objects + k ≡ suc (suc (length graph.nodes)) + k = omega
        (arith, nodes_long) in e);
  }
