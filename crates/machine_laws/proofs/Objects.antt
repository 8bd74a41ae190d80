-- The shapes of a machine's objects, and the kinds of their slots.
use Rattle.std.proofs.Common.{◌≡◌, ℕ, ◌<◌, true, List, [], length, Option, Some, None, refl, sym, ◌∙◌, ap, subst, arith}
use Rattle.std.specs.Prelude.{slice_index, slice_index_or}
use Rattle.std.proofs.lemmas.Bool.{eq-eqb}
use Rattle.std.proofs.lemmas.List.Elements.{All-get_or}
use Rattle.ap_base.specs.declared.kind.Kind.{Kind}
use Rattle.graph_model.specs.declared.types.Field.{Field}
use Rattle.graph_model.specs.declared.types.Shape.{Shape}
use Rattle.graph_model.specs.declared.types.Heap.{Heap}
use Rattle.graph_model.specs.declared.types.Obj.{Obj as ObjectOf}
use Rattle.graph_model.specs.Heaps.{no_object, no_shape, object_at, shape_at}
use Rattle.image_meaning.specs.Objects.{kind_of, holds_slots}
use Rattle.plain_model.specs.Laws.{HasItsSlots}
use Rattle.shared_objects.specs.Worlds.{heap_of}
use Rattle.twin_forms.specs.Table.{Entry, entry, kind_at}
use Rattle.twin_forms.specs.Sights.{view_of}
use Rattle.two_spaces.specs.Seen.{object_of}
use Rattle.two_spaces.proofs.Finding.{class_kind}
use Rattle.two_spaces.proofs.Shifting.{object_is, objects_long, values_long}
use Rattle.machine_forms.specs.Machines.{Opening, Machine, known_in, shown_in}
use Rattle.machine_forms.specs.Keeping.{KeepsRun}
use Rattle.machine_laws.proofs.Holding.{kind_there}
use Rattle.machine_laws.proofs.StopTables.{lies, heap_is}

full_by : (element : Option Kind) (fields : List Field) (count : ℕ) → (element ≡ None → count ≡ length fields)
    → holds_slots element fields count ≡ true
full_by None fields count same = eq-eqb (length fields) count (sym (same refl))
full_by (Some kind) fields count same = refl

module _ (o : Opening) (m : Machine) (es : List Entry) (r : KeepsRun o m es) (n : ℕ)
    (lt : n < length es) where
  -- the shape of the object's class
  abbrev pub shape_in : Shape
  shape_in = slice_index_or m.spaces.shapes (slice_index m.spaces.classes (entry es n).shape) no_shape

  abbrev object : ObjectOf
  object = object_of m.spaces.classes (view_of m.spaces.twin) (entry es n)

  pub shape_known : shape_at (known_in o m).world.heap (object_at (known_in o m).world.heap n).shape
      ≡ shape_in
  shape_known = ap (λ (h : Heap). shape_at h (object_at h n).shape) (heap_is o m es r)
      ∙ ap (λ (x : ObjectOf). slice_index_or m.spaces.shapes x.shape no_shape)
      (object_is m.spaces.classes (view_of m.spaces.twin) es n (lies o m es r) lt)

  -- it has as many slots as that says
  pub full_known : holds_slots shape_in.element shape_in.fields (entry es n).slots ≡ true
  full_known =
      let heap : Heap = heap_of [] (shown_in m) in
      let many = objects_long m.spaces.classes (view_of m.spaces.twin) es (lies o m es r) in
      let its : HasItsSlots heap (object_at heap n) =
      All-get_or (HasItsSlots heap) heap.objects n no_object (omega (arith, lt, many))
      r.world.heap.of_set.slots in
      let own : HasItsSlots heap object = subst (HasItsSlots heap)
      (object_is m.spaces.classes (view_of m.spaces.twin) es n (lies o m es r) lt) its in
      full_by shape_in.element shape_in.fields (entry es n).slots
      (λ none. sym (values_long m.spaces.classes (view_of m.spaces.twin) (entry es n)) ∙ own none)

  pub kind_known : (k : ℕ) → k < (entry es n).slots
      → kind_at (view_of m.spaces.twin) (entry es n) k ≡ Some (kind_of shape_in k)
  kind_known k inside = class_kind m.spaces es n k r.heap.whole lt
      ∙ kind_there shape_in (entry es n).slots k full_known inside
