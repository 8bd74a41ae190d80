-- An object without elements has as many slots as its class has fields.
use Rattle.std.proofs.Common.{◌≡◌, ℕ, Bool, true, false, List, [], ◌∷◌, map, sym, ◌∙◌, length, inl, inr, slice_index_or}
use Rattle.std.proofs.Common.{if◌then◌else◌}
use Rattle.std.specs.Prelude.{All, Option, Some, None, replicate, slice_set}
use Rattle.std.proofs.Math.ListN.{get_or-map}
use Rattle.std.proofs.lemmas.Bool.{cases_lt}
use Rattle.std.proofs.lemmas.List.{length-map, length-set, set_past}
use Rattle.std.proofs.lemmas.List.Elements.{All-map, All-set, All-push, All-append, All-cons, All-get_or}
use Rattle.std.proofs.lemmas.Slice.Zip.{AllZip-long}
use Rattle.ap_base.specs.declared.kind.Kind.{Kind}
use Rattle.ap_base.specs.declared.kind.Kind.TheVariants.{C}
use Rattle.ap_base.specs.declared.place.Place.TheVariants.{Static, Slot}
use Rattle.graph_model.specs.declared.types.Value.{Value}
use Rattle.graph_model.specs.declared.types.Field.{Field}
use Rattle.graph_model.specs.declared.types.Shape.{Shape}
use Rattle.graph_model.specs.declared.types.Obj.{Obj}
use Rattle.graph_model.specs.declared.types.Heap.{Heap}
use Rattle.graph_model.specs.declared.types.Node.{Node}
use Rattle.graph_model.specs.declared.types.Graph.{Graph}
use Rattle.graph_model.specs.Heaps.{default_of, no_object, object_at, shape_at, with_slot, fresh_values, with_fresh}
use Rattle.run_history.specs.declared.act.Op.{Op}
use Rattle.run_history.specs.declared.act.Op.TheVariants as op
use Rattle.run_history.specs.Recorded.{Recorded}
use Rattle.run_history.specs.Worlds.{World, heap_after_op, after}
use Rattle.plain_model.specs.Classes.{ClassFacts, no_class}
use Rattle.plain_model.specs.Facts.{SetFacts, classes_of, class_at, element_of, stream_class, arguments_class}
use Rattle.plain_model.specs.Consistent.{IsComplete}
use Rattle.plain_model.specs.First.{IsOpening, class_named, first_heap, first_world, node_object, literal_object}
use Rattle.plain_model.specs.Kinds.{IsOf, AreOf}
use Rattle.plain_model.specs.Codes.{Code, is_persistent}
use Rattle.plain_model.specs.Runs.{IsPlainRun, known_of}
use Rattle.plain_model.specs.Laws.{HasItsSlots}
use Rattle.plain_model.proofs.Consistent.{text_elements, argument_elements, arguments_kind, no_stream_fields}
use Rattle.plain_model.proofs.Durable.{world-known_after_op}
use Rattle.plain_model.proofs.RunKeeps.{run_keeps}

abbrev HaveSlots : Heap → Type 0
HaveSlots heap = All (HasItsSlots heap) heap.objects

-- a new object without elements has its fields
fresh_slots : (shape : Shape) (count : ℕ) → shape.element ≡ None
    → length (fresh_values shape count) ≡ length shape.fields
fresh_slots shape count is = elim shape.element as (λ element. element ≡ None → length {A = Value} (elim element [
  | None ↦ map (λ (f : Field). default_of f.kind) shape.fields
  | Some kind ↦ replicate count (default_of kind)
]) ≡ length shape.fields) [
  | None ↦ λ e. length-map shape.fields (λ (f : Field). default_of f.kind)
  | Some kind ↦ λ e. absurd (let no : ◌≡◌ {A = Option Kind} (Some kind) None = e in cc)
] is

slots_of_fresh : (heap : Heap) (shape count : ℕ) → HaveSlots heap → HaveSlots (with_fresh heap shape count)
slots_of_fresh heap shape count have =
    All-push (HasItsSlots heap) heap.objects
    (record { shape = shape; values = fresh_values (shape_at heap shape) count }) have
    (fresh_slots (shape_at heap shape) count)

-- a store changes no number of slots
slots_of_stored : (heap : Heap) (n i : ℕ) (value : Value) → HaveSlots heap
    → All (HasItsSlots heap) (slice_set heap.objects n (with_slot (object_at heap n) i value))
slots_of_stored heap n i value have = elim (cases_lt n (length heap.objects)) [
  | inl there ↦
      (let its = All-get_or (HasItsSlots heap) heap.objects n no_object there have in
      All-set (HasItsSlots heap) heap.objects n (with_slot (object_at heap n) i value)
      (λ e. length-set (object_at heap n).values i value ∙ its e) have)
  | inr past ↦ rw (set_past heap.objects n (with_slot (object_at heap n) i value) past) have
]

slots_after_op : (heap : Heap) (o : Op) → HaveSlots heap → HaveSlots (heap_after_op heap o)
slots_after_op heap (op.Alloc n shape count) have = slots_of_fresh heap shape count have
slots_after_op heap (op.Throw n class) have = slots_of_fresh heap class 0 have
slots_after_op heap (op.Stored (Static n) value) have = have
slots_after_op heap (op.Stored (Slot n i) value) have = slots_of_stored heap n i value have
slots_after_op heap o have = have

slots_next : (world : World) (t : ℕ) (o : Op) (persistent : Bool) → HaveSlots world.heap
    → HaveSlots (if persistent then world else after world t o).heap
slots_next world t o true have = have
slots_next world t o false have = slots_after_op world.heap o have

module _ (set : SetFacts) (opening : Graph) (complete : IsComplete set) (is : IsOpening set opening) where
  -- an object of the first heap, by its class
  abbrev Has : Obj → Type 0
  Has o = HasItsSlots (first_heap set opening) o

  by_class : (o : Obj)
      → ((class_at set o.shape).shape.element ≡ None → length o.values ≡ length (class_at set o.shape).shape.fields)
      → Has o
  unfolding first_heap
  by_class o slots = rw (get_or-map (λ (c : ClassFacts). c.shape) (classes_of set) o.shape no_class) slots

  with_elements : (o : Obj) (kind : Kind) → element_of set o.shape ≡ Some kind → Has o
  with_elements o kind some = by_class o (λ none.
      absurd (let no : ◌≡◌ {A = Option Kind} (Some kind) None = sym some ∙ none in cc))

  filled : (element : Option Kind) (fields : List Field) (values : List Value) → AreOf element fields values
      → element ≡ None → length values ≡ length fields
  filled None fields values fills none = AllZip-long (λ (f : Field) value. IsOf f.kind value) fields values fills
  filled (Some kind) fields values fills none =
      absurd (let no : ◌≡◌ {A = Option Kind} (Some kind) None = none in cc)

  abbrev NodeHas : Node → Type 0
  NodeHas n = Has (node_object set opening n)

  first_have : HaveSlots (first_heap set opening)
  unfolding first_heap
  first_have =
      let stream : Obj = record { shape = stream_class set; values = [] } in
      let arguments : Obj = record { shape = arguments_class set; values = [] } in
      let literals = map (literal_object set opening) set.literals in
      All-append Has (map (node_object set opening) opening.nodes) (stream ∷ arguments ∷ literals)
      (All-map Has (node_object set opening) opening.nodes (λ k d within.
      let n = slice_index_or opening.nodes k d in
      let shape = (class_at set (class_named (classes_of set) n.shape.name)).shape in
      by_class (node_object set opening n) (filled shape.element shape.fields n.values (is.values k d within))))
      (All-cons Has stream (arguments ∷ literals)
      (by_class stream (λ none. sym (no_stream_fields set)))
      (All-cons Has arguments literals (with_elements arguments (arguments_kind set complete) (argument_elements set complete))
      (All-map Has (literal_object set opening) set.literals (λ k d within.
      with_elements (literal_object set opening (slice_index_or set.literals k d)) C (text_elements set)))))

module _ (set : SetFacts) (main : ℕ) (opening : Graph) {Frames : Type 0} (code : Code set main opening Frames)
    (complete : IsComplete set) (is : IsOpening set opening) where
  first_world_has : HaveSlots (first_world set opening).heap
  unfolding first_world
  first_world_has = first_have set opening complete is

  pub objects_have_their_slots : (acts : List Recorded) → IsPlainRun set main opening code acts
      → HaveSlots (known_of set main opening code acts).world.heap
  objects_have_their_slots acts run =
      run_keeps set main opening code (λ known before. HaveSlots known.world.heap)
      (λ known frames Now before a may have.
      rw (world-known_after_op known a.act.thread a.named a.act.op)
      (slots_next known.world a.act.thread a.act.op (is_persistent a.act.op) have))
      first_world_has acts run
