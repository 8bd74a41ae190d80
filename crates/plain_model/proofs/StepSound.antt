-- A step of a fit request keeps the heap sound.
use Rattle.std.proofs.Common.{◌≡◌, ℕ, ◌<◌, ◌≤◌, ◌^◌, true, [], ◌∷◌, ◌++◌, length, map, arith, length-append}
use Rattle.std.specs.Prelude.{All, Some, None, slice_set, slice_index_or, replicate}
use Rattle.std.proofs.lemmas.List.{length-map, length-set}
use Rattle.std.proofs.lemmas.List.Elements.{All-map, All-replicate, All-weaker, All-set, All-push, All-get_or}
use Rattle.ap_base.specs.declared.kind.Kind.{Kind}
use Rattle.ap_base.specs.declared.place.Place.TheVariants.{Static, Slot}
use Rattle.graph_model.specs.declared.types.Value.{Value}
use Rattle.graph_model.specs.declared.types.Field.{Field}
use Rattle.graph_model.specs.declared.types.Shape.{Shape}
use Rattle.graph_model.specs.declared.types.Obj.{Obj}
use Rattle.graph_model.specs.declared.types.Heap.{Heap}
use Rattle.graph_model.specs.Heaps.{IsBelow, IsSound, default_of, fresh_values, shape_at, object_at, with_slot, with_fresh}
use Rattle.graph_model.specs.Heaps.{stored, no_object}
use Rattle.run_history.specs.declared.act.Op.{Op}
use Rattle.run_history.specs.Worlds.{World, heap_after_op}
use Rattle.plain_model.specs.Classes.{ClassFacts}
use Rattle.plain_model.specs.Facts.{SetFacts, classes_of, shapes_of}
use Rattle.plain_model.specs.Kinds.{narrowed}
use Rattle.plain_model.specs.Consistent.{IsComplete}
use Rattle.plain_model.specs.Requests.{PlainRequest, PlainReply}
use Rattle.plain_model.specs.Steps.{Does, step, own_kind}
use Rattle.plain_model.specs.Duties.{IsFit, IsOfKind}
use Rattle.plain_model.proofs.FirstSound.{IsBelow-more, default_below, narrowed_below}
use Rattle.plain_model.proofs.SetHeaps.{value_below}
use Rattle.plain_model.proofs.StepGives.{HoldsOfParts, is_quiet, quiet_keeps, step_gives}

-- the values of a new object name no object
fresh_below : (n : ℕ) (shape : Shape) (count : ℕ) → All (IsBelow n) (fresh_values shape count)
fresh_below n shape count = elim shape.element as (λ element. All (IsBelow n) (elim element [
  | None ↦ map (λ (f : Field). default_of f.kind) shape.fields
  | Some kind ↦ replicate count (default_of kind)
])) [
  | None ↦ All-map (IsBelow n) (λ (f : Field). default_of f.kind) shape.fields
      (λ k d within. default_below n (slice_index_or shape.fields k d).kind)
  | Some kind ↦ All-replicate (IsBelow n) count (default_of kind) (default_below n kind)
]

-- a heap stays sound with one more object of a shape that is there
pub sound-with_fresh : (heap : Heap) (shape count : ℕ) → IsSound heap → shape < length heap.shapes
    → length (with_fresh heap shape count).objects < 2 ^ 32 → IsSound (with_fresh heap shape count)
sound-with_fresh heap shape count sound there few =
    let fresh : Obj = record { shape = shape; values = fresh_values (shape_at heap shape) count } in
    let more : length heap.objects ≤ length (heap.objects ++ fresh ∷ []) =
    omega (arith, length-append heap.objects (fresh ∷ [])) in
    let all_more = All-weaker (IsBelow (length heap.objects)) (IsBelow (length (heap.objects ++ fresh ∷ [])))
    (λ v. IsBelow-more (length heap.objects) (length (heap.objects ++ fresh ∷ [])) v more) in
    record {
      few = few;
      shapes = All-push (λ (o : Obj). o.shape < length heap.shapes) heap.objects fresh sound.shapes there;
      slots = All-push (λ (o : Obj). All (IsBelow (length (heap.objects ++ fresh ∷ []))) o.values)
          heap.objects fresh
          (All-weaker (λ (o : Obj). All (IsBelow (length heap.objects)) o.values)
          (λ (o : Obj). All (IsBelow (length (heap.objects ++ fresh ∷ []))) o.values)
          (λ o. all_more o.values) heap.objects sound.slots)
          (fresh_below (length (heap.objects ++ fresh ∷ [])) (shape_at heap shape) count);
      statics = all_more heap.statics sound.statics;
      roots = sound.roots;
    }

-- and after a store of a value that names an object of the heap, if it names one
pub sound-stored_static : (heap : Heap) (n : ℕ) (value : Value) → IsSound heap
    → IsBelow (length heap.objects) value → IsSound (stored heap (Static n) value)
sound-stored_static heap n value sound below = record {
  few = sound.few;
  shapes = sound.shapes;
  slots = sound.slots;
  statics = All-set (IsBelow (length heap.objects)) heap.statics n value below sound.statics;
  roots = rw (length-set heap.statics n value) sound.roots;
}

pub sound-stored_slot : (heap : Heap) (n i : ℕ) (value : Value) → IsSound heap → n < length heap.objects
    → IsBelow (length heap.objects) value
    → IsSound (stored heap (Slot n i) value)
sound-stored_slot heap n i value sound there below =
    let object = object_at heap n in
    let objects = slice_set heap.objects n (with_slot object i value) in
    let same : length objects ≡ length heap.objects = length-set heap.objects n (with_slot object i value) in
    let enough : length heap.objects ≤ length objects = omega (arith, same) in
    let still = All-weaker (λ (o : Obj). All (IsBelow (length heap.objects)) o.values)
    (λ (o : Obj). All (IsBelow (length objects)) o.values)
    (λ o. All-weaker (IsBelow (length heap.objects)) (IsBelow (length objects))
    (λ v. IsBelow-more (length heap.objects) (length objects) v enough) o.values)
    objects in
    record {
      few = rw same sound.few;
      shapes = All-set (λ (o : Obj). o.shape < length heap.shapes) heap.objects n (with_slot object i value)
          (All-get_or (λ (o : Obj). o.shape < length heap.shapes) heap.objects n no_object there sound.shapes)
          sound.shapes;
      slots = still
          (All-set (λ (o : Obj). All (IsBelow (length heap.objects)) o.values) heap.objects n
          (with_slot object i value)
          (All-set (IsBelow (length heap.objects)) object.values i value below
          (All-get_or (λ (o : Obj). All (IsBelow (length heap.objects)) o.values) heap.objects n no_object
          there sound.slots)) sound.slots);
      statics = rw same sound.statics;
      roots = sound.roots;
    }

module _ (set : SetFacts) (world : World) (complete : IsComplete set)
    (same : world.heap.shapes ≡ shapes_of set)
    (sound : IsSound world.heap) where
  abbrev heap : Heap
  heap = world.heap

  -- the operation leaves the heap sound, where it leaves few objects
  abbrev LeavesSound : Op → Type 0
  LeavesSound o = length (heap_after_op heap o).objects < 2 ^ 32 → IsSound (heap_after_op heap o)

  class_there : (class : ℕ) → class < length (classes_of set) → class < length heap.shapes
  class_there class there = rw (same, length-map (classes_of set) (λ (c : ClassFacts). c.shape)) there

  quiet_sound : (o : Op) → is_quiet o ≡ true → LeavesSound o
  quiet_sound o quiet few = rw (quiet_keeps heap o quiet) sound

  -- what a place of a kind keeps of a fit value
  kept_below : (kind own : Kind) (value : Value) → IsOfKind world kind value
      → IsBelow (length heap.objects) (narrowed own value)
  kept_below kind own value of =
      narrowed_below (length heap.objects) own value (value_below world kind value of)

  sound_of_parts : HoldsOfParts set world (λ request o r. LeavesSound o)
  sound_of_parts = record {
    throw = λ request class is may. sound-with_fresh heap class 0 sound (class_there class is.0);
    alloc = λ request class count there may is.
        sound-with_fresh heap class count sound (class_there class there);
    store_static = λ from field value is of few.
        sound-stored_static heap field.at (narrowed field.kind value) sound
        (kept_below field.kind field.kind value of);
    store_field = λ from holder field value n there of_class is of few.
        sound-stored_slot heap n field.at (narrowed field.kind value) sound there
        (kept_below field.kind field.kind value of);
    store_element = λ from array index kind value n i there has within of few.
        let own = own_kind set world kind n in
        sound-stored_slot heap n i (narrowed own value) sound there (kept_below kind own value of);
    read_static = λ from field is few. sound;
    read_field = λ from holder field n there of is few. sound;
    read_element = λ from array index kind n i there has within few. sound;
    measure = λ from array n count few. sound;
    test = λ from object target o b quiet. quiet_sound o quiet;
    compare = λ from left right is_same few. sound;
    other = λ request o r quiet no_value is. quiet_sound o quiet;
  }

  pub keeps-step : (t taken : ℕ) (request : PlainRequest) → IsFit set world t request
      → (o : Op) (r : PlainReply)
      → step set world t taken request ≡ Does o r → LeavesSound o
  keeps-step t taken request fit o r does =
      step_gives set world (λ request o r. LeavesSound o) sound_of_parts t taken request fit o r does
