-- An act that makes an object.
use Rattle.std.proofs.Common.{◌≡◌, ℕ, ◌<◌, ◌≤◌, List, [], ◌∷◌, ◌++◌, length, refl, sym, ◌∙◌, ap, subst, arith}
use Rattle.std.specs.Prelude.{slice_index, slice_index_or}
use Rattle.std.proofs.lemmas.List.{get_or_push, length_push}
use Rattle.ap_base.specs.declared.reference.Ref.{Ref}
use Rattle.ap_base.specs.declared.reference.Item.{Item}
use Rattle.graph_model.specs.declared.types.Heap.{Heap}
use Rattle.graph_model.specs.declared.types.Obj.{Obj}
use Rattle.graph_model.specs.Heaps.{no_object, fresh_values}
use Rattle.image_layout.specs.Places.{first_object_line}
use Rattle.natives.specs.declared.requests.Request.{Request}
use Rattle.natives.specs.declared.requests.Reply.{Reply}
use Rattle.run_history.specs.declared.act.Op.{Op}
use Rattle.run_history.specs.Worlds.{World, heap_after_op}
use Rattle.shared_objects.specs.Shown.{shape_in}
use Rattle.twin_forms.specs.Table.{Entry, entry}
use Rattle.twin_forms.specs.Moves.{fresh}
use Rattle.twin_forms.specs.Sights.{view_of}
use Rattle.two_spaces.specs.Seen.{object_of}
use Rattle.two_spaces.specs.Whole.{Made}
use Rattle.two_spaces.proofs.Keeping.{kinds_same}
use Rattle.two_spaces.proofs.Shifting.{object_is, objects_long, values_long}
use Rattle.convert_words.specs.Scenes.{scene, AgreesAt}
use Rattle.convert_words.proofs.StepLaws.{new_objects_keep}
use Rattle.convert_queue.specs.Queues.{Queues}
use Rattle.converter.specs.Stepping.{keys_of}
use Rattle.machine_forms.specs.Machines.{Opening, Machine, memory_of, scene_of, shown_in}
use Rattle.machine_forms.specs.Keeping.{KeepsRun}
use Rattle.machine_forms.specs.Events.{DoesRequest, IsListed}
use Rattle.machine_laws.specs.HeapLaws.{KeepsShared}
use Rattle.machine_laws.proofs.HeapActing.{acted_heap, acted_world, memory_same, same_fields}
use Rattle.machine_laws.proofs.Numbers.{by_entry, entry_new, numbers_added}
use Rattle.machine_forms.specs.Happening.{made_entry}
use Rattle.machine_laws.proofs.HeapTables.{AreLow}

abbrev heap_with : Machine → List Obj → Heap
heap_with m objects =
    record { shapes = (shown_in m).shapes; objects = objects; statics = (shown_in m).statics; roots = [] }

abbrev new_object : Machine → (class count : ℕ) → Obj
new_object m class count =
    record { shape = class; values = fresh_values (shape_in (shown_in m) class) count }

module _ (o : Opening) (m m' : Machine) (es : List Entry) (run : KeepsRun o m es) (t : ℕ)
    (request : Request Ref Item) (operation : Op) (r : Reply Ref Item)
    (d : DoesRequest o m m' es t request operation r) (made : Made m.spaces es m'.spaces) (class count : ℕ)
    (new : (objects : List Obj) → heap_after_op (heap_with m objects) operation
    ≡ heap_with m (objects ++ new_object m class count ∷ [])) where
  abbrev at : Entry
  at = fresh made.shape made.slots (length m.spaces.twin.space.words)

  abbrev es' : List Entry
  es' = es ++ at ∷ []

  -- the objects that are shown after it
  objects_now : (shown_in m').objects ≡ (shown_in m).objects ++ new_object m class count ∷ []
  objects_now =
      ap (λ (w : World). w.heap.objects) (d.step.follows []).2
      ∙ ap (λ h. h.objects) (new (shown_in m).objects)

  -- the new object is of the class
  class_is : slice_index m'.spaces.classes made.shape ≡ class
  class_is =
      let long = objects_long m.spaces.classes (view_of m.spaces.twin) es run.heap.whole.lies in
      let there = length_push es at in
      sym (ap (λ (x : Obj). x.shape) (object_is m'.spaces.classes (view_of m'.spaces.twin) es' (length es)
      made.stands.lies (omega (arith, there)))
      ∙ ap (λ (e : Entry). slice_index m'.spaces.classes e.shape) (entry_new es at (length es) refl))
      ∙ ap (λ (os : List Obj). (slice_index_or os (length es) no_object).shape) objects_now
      ∙ ap (λ (x : Obj). x.shape) (get_or_push (shown_in m).objects (new_object m class count)
      no_object (length es) long)

  shape_is : made.shape ≡ slice_index m.spaces.numbers class
  shape_is =
      made.of_class
      ∙ ap (λ c. slice_index m.spaces.numbers c)
      (sym (ap (λ (cs : List ℕ). slice_index cs made.shape) made.classes.classes) ∙ class_is)

  slots_is : made.slots ≡ length (fresh_values (shape_in (shown_in m) class) count)
  slots_is =
      let long = objects_long m.spaces.classes (view_of m.spaces.twin) es run.heap.whole.lies in
      let there = length_push es at in
      sym (values_long m'.spaces.classes (view_of m'.spaces.twin) at)
      ∙ ap (λ (e : Entry). length (object_of m'.spaces.classes (view_of m'.spaces.twin) e).values)
      (sym (entry_new es at (length es) refl))
      ∙ ap (λ (x : Obj). length x.values) (sym (object_is m'.spaces.classes (view_of m'.spaces.twin) es'
      (length es) made.stands.lies (omega (arith, there))))
      ∙ ap (λ (os : List Obj). length (slice_index_or os (length es) no_object).values) objects_now
      ∙ ap (λ (x : Obj). length x.values) (get_or_push (shown_in m).objects (new_object m class count)
      no_object (length es) long)

  table_is : es' ≡ es ++ made_entry m class count ∷ []
  table_is = ap (λ (e : Entry). es ++ e ∷ [])
      (ap (λ n. fresh n made.slots (length m.spaces.twin.space.words)) shape_is
      ∙ ap (λ n. fresh (slice_index m.spaces.numbers class) n (length m.spaces.twin.space.words)) slots_is)

  listed_now : IsListed o m class → (n : ℕ) → n < length es'
      → (entry es' n).shape < length o.directory.shapes
  listed_now listed n ln =
      by_entry (λ k e. e.shape < length o.directory.shapes) es at run.heap.listed
      (subst (λ k. k < length o.directory.shapes) (sym shape_is) listed) n ln

  low_now : AreLow es'
  low_now n ln =
      by_entry (λ k e. 0 < e.stage → first_object_line ≤ e.line) es at run.heap.low
      (λ placed. absurd (let no : 0 < 0 = placed in omega (arith, no))) n ln

  agrees_now : m'.queue ≡ m.queue → AgreesAt (scene m'.spaces.twin.space m'.spaces.twin.memory
      m'.spaces.twin.marks m'.queue m.free (keys_of m.rest.monitors)) es'
  agrees_now queue =
      subst (λ (q : Queues). AgreesAt (scene m'.spaces.twin.space m'.spaces.twin.memory
      m'.spaces.twin.marks q m.free (keys_of m.rest.monitors)) es') (sym queue)
      (new_objects_keep (scene_of m) m'.spaces.twin es made.shape made.slots made.added made.memory
      run.heap.agrees)

  pub shared_made : m'.queue ≡ m.queue → IsListed o m class
      → KeepsShared o m' (es ++ made_entry m class count ∷ [])
  shared_made queue listed = subst (KeepsShared o m') table_is (
    acted_heap o m m' es (run.heap, run.world) t request operation r d es' (record {
      whole = made.stands;
      agrees = agrees_now queue;
      classes = made.classes;
      listed = listed_now listed;
      numbers = numbers_added (view_of m.spaces.twin) (view_of m'.spaces.twin) es made.shape made.slots
          (kinds_same m.spaces.twin m'.spaces.twin made.classes.kinds) made.added run.heap.numbers;
      low = low_now;
      memory = memory_same (memory_of m) (memory_of m') made.memory;
    }),
    acted_world o m m' es (run.heap, run.world) t request operation r d
        (same_fields m.spaces.statics m'.spaces.statics made.statics),
  )
