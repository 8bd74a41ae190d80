-- Each reference of a heap names an object, however many objects there are: so it is at first, steps of fit
-- requests keep it so, and what their replies name is there.
use Rattle.std.proofs.Common.{◌≡◌, ℕ, ◌<◌, ◌≤◌, true, false, Bool, List, [], ◌∷◌, ◌++◌, length, map, length-append, arith, inl}
use Rattle.std.proofs.Common.{inr}
use Rattle.std.specs.Prelude.{All, Some, None, slice_set, slice_index_or, replicate}
use Rattle.std.proofs.lemmas.Bool.{cases_lt}
use Rattle.std.proofs.lemmas.List.{length-map, length-set, get_or_past}
use Rattle.std.proofs.lemmas.List.Elements.{All-map, All-replicate, All-weaker, All-set, All-push, All-get_or}
use Rattle.ap_base.specs.declared.kind.Kind.{Kind}
use Rattle.ap_base.specs.declared.place.Place.TheVariants.{Static, Slot}
use Rattle.graph_model.specs.declared.types.Value.{Value}
use Rattle.graph_model.specs.declared.types.Value.TheVariants.{Null}
use Rattle.graph_model.specs.declared.types.Field.{Field}
use Rattle.graph_model.specs.declared.types.Shape.{Shape}
use Rattle.graph_model.specs.declared.types.Obj.{Obj}
use Rattle.graph_model.specs.declared.types.Heap.{Heap}
use Rattle.graph_model.specs.Heaps.{IsBelow, IsSound, default_of, fresh_values, shape_at, object_at, values_of, with_slot}
use Rattle.graph_model.specs.Heaps.{with_fresh, stored, no_object}
use Rattle.natives.specs.declared.requests.Reply.TheVariants as reply
use Rattle.run_history.specs.declared.act.Op.{Op}
use Rattle.run_history.specs.declared.act.Op.TheVariants as op
use Rattle.run_history.specs.Worlds.{World, heap_after_op}
use Rattle.plain_model.specs.Classes.{ClassFacts}
use Rattle.plain_model.specs.Facts.{SetFacts, classes_of, shapes_of}
use Rattle.plain_model.specs.Kinds.{narrowed}
use Rattle.plain_model.specs.Requests.{PlainRequest, PlainReply}
use Rattle.plain_model.specs.Replies.{NamesBelow}
use Rattle.plain_model.specs.Steps.{Does, step, own_kind, bool_value}
use Rattle.plain_model.specs.Duties.{IsFit, IsOfKind}
use Rattle.plain_model.proofs.FirstSound.{IsBelow-more, default_below, narrowed_below}
use Rattle.plain_model.proofs.SetHeaps.{value_below}
use Rattle.plain_model.proofs.StepGives.{HoldsOfParts, is_quiet, quiet_keeps, has_value, step_gives}
use Rattle.plain_frames.specs.DutyLaws.{RefersWithin}

pub sound-refers : (heap : Heap) → IsSound heap → RefersWithin heap
sound-refers heap sound = record { shapes = sound.shapes; slots = sound.slots; statics = sound.statics }

fresh_below : (n : ℕ) (shape : Shape) (count : ℕ) → All (IsBelow n) (fresh_values shape count)
fresh_below n shape count = elim shape.element as (λ element. All (IsBelow n) (elim element [
  | None ↦ map (λ (f : Field). default_of f.kind) shape.fields
  | Some kind ↦ replicate count (default_of kind)
])) [
  | None ↦ All-map (IsBelow n) (λ (f : Field). default_of f.kind) shape.fields
      (λ k d within. default_below n (slice_index_or shape.fields k d).kind)
  | Some kind ↦ All-replicate (IsBelow n) count (default_of kind) (default_below n kind)
]

refers-fresh : (heap : Heap) (shape count : ℕ) → RefersWithin heap → shape < length heap.shapes
    → RefersWithin (with_fresh heap shape count)
refers-fresh heap shape count refers there =
    let fresh : Obj = record { shape = shape; values = fresh_values (shape_at heap shape) count } in
    let more : length heap.objects ≤ length (heap.objects ++ fresh ∷ []) =
    omega (arith, length-append heap.objects (fresh ∷ [])) in
    let all_more = All-weaker (IsBelow (length heap.objects)) (IsBelow (length (heap.objects ++ fresh ∷ [])))
    (λ v. IsBelow-more (length heap.objects) (length (heap.objects ++ fresh ∷ [])) v more) in
    record {
      shapes = All-push (λ (o : Obj). o.shape < length heap.shapes) heap.objects fresh refers.shapes there;
      slots = All-push (λ (o : Obj). All (IsBelow (length (heap.objects ++ fresh ∷ []))) o.values)
          heap.objects fresh
          (All-weaker (λ (o : Obj). All (IsBelow (length heap.objects)) o.values)
          (λ (o : Obj). All (IsBelow (length (heap.objects ++ fresh ∷ []))) o.values)
          (λ o. all_more o.values) heap.objects refers.slots)
          (fresh_below (length (heap.objects ++ fresh ∷ [])) (shape_at heap shape) count);
      statics = all_more heap.statics refers.statics;
    }

refers-static : (heap : Heap) (n : ℕ) (value : Value) → RefersWithin heap
    → IsBelow (length heap.objects) value → RefersWithin (stored heap (Static n) value)
refers-static heap n value refers below = record {
  shapes = refers.shapes;
  slots = refers.slots;
  statics = All-set (IsBelow (length heap.objects)) heap.statics n value below refers.statics;
}

refers-slot : (heap : Heap) (n i : ℕ) (value : Value) → RefersWithin heap → n < length heap.objects
    → IsBelow (length heap.objects) value → RefersWithin (stored heap (Slot n i) value)
refers-slot heap n i value refers there below =
    let object = object_at heap n in
    let objects = slice_set heap.objects n (with_slot object i value) in
    let same : length objects ≡ length heap.objects = length-set heap.objects n (with_slot object i value) in
    let enough : length heap.objects ≤ length objects = omega (arith, same) in
    let still = All-weaker (λ (o : Obj). All (IsBelow (length heap.objects)) o.values)
    (λ (o : Obj). All (IsBelow (length objects)) o.values)
    (λ o. All-weaker (IsBelow (length heap.objects)) (IsBelow (length objects))
    (λ v. IsBelow-more (length heap.objects) (length objects) v enough) o.values)
    objects in
    record {
      shapes = All-set (λ (o : Obj). o.shape < length heap.shapes) heap.objects n (with_slot object i value)
          (All-get_or (λ (o : Obj). o.shape < length heap.shapes) heap.objects n no_object there
          refers.shapes) refers.shapes;
      slots = still
          (All-set (λ (o : Obj). All (IsBelow (length heap.objects)) o.values) heap.objects n
          (with_slot object i value)
          (All-set (IsBelow (length heap.objects)) object.values i value below
          (All-get_or (λ (o : Obj). All (IsBelow (length heap.objects)) o.values) heap.objects n no_object
          there refers.slots)) refers.slots);
      statics = rw same refers.statics;
    }

value_below_at : (n : ℕ) (values : List Value) (i : ℕ) → All (IsBelow n) values
    → IsBelow n (slice_index_or values i Null)
value_below_at n values i all = elim (cases_lt i (length values)) [
  | inl there ↦ All-get_or (IsBelow n) values i Null there all
  | inr past ↦ rw (get_or_past values i Null past) tt
]

names_none : (n : ℕ) (r : PlainReply) → has_value r ≡ false → NamesBelow n r
names_none n (reply.Item value) none = absurd (let no = none in cc)
names_none n (reply.Made object) none = absurd (let no = none in cc)
names_none n (reply.Thrown object class) none = absurd (let no = none in cc)
names_none n r none = tt

bool_below : (n : ℕ) (b : Bool) → IsBelow n (bool_value b)
bool_below n true = tt
bool_below n false = tt

-- no operation takes an object away
pub objects_stay : (heap : Heap) (o : Op) → length heap.objects ≤ length (heap_after_op heap o).objects
objects_stay heap (op.Alloc n shape count) =
    let fresh : Obj = record { shape = shape; values = fresh_values (shape_at heap shape) count } in
    omega (arith, length-append heap.objects (fresh ∷ []))
objects_stay heap (op.Throw n class) =
    let fresh : Obj = record { shape = class; values = fresh_values (shape_at heap class) 0 } in
    omega (arith, length-append heap.objects (fresh ∷ []))
objects_stay heap (op.Stored (Static n) value) = omega arith
objects_stay heap (op.Stored (Slot n i) value) =
    omega (arith, length-set heap.objects n (with_slot (object_at heap n) i value))
objects_stay heap o = omega arith

module _ (set : SetFacts) (world : World) (same : world.heap.shapes ≡ shapes_of set)
    (refers : RefersWithin world.heap) where
  abbrev heap : Heap
  heap = world.heap

  abbrev objects : ℕ
  objects = length world.heap.objects

  class_there : (class : ℕ) → class < length (classes_of set) → class < length heap.shapes
  class_there class there = rw (same, length-map (classes_of set) (λ (c : ClassFacts). c.shape)) there

  -- ---- the heap after a step

  abbrev Leaves : PlainRequest → Op → PlainReply → Type 0
  Leaves request o r = RefersWithin (heap_after_op heap o)

  quiet_leaves : (o : Op) → is_quiet o ≡ true → RefersWithin (heap_after_op heap o)
  quiet_leaves o quiet = rw (quiet_keeps heap o quiet) refers

  kept_below : (kind own : Kind) (value : Value) → IsOfKind world kind value
      → IsBelow objects (narrowed own value)
  kept_below kind own value of = narrowed_below objects own value (value_below world kind value of)

  leaves_of_parts : HoldsOfParts set world Leaves
  leaves_of_parts = record {
    throw = λ request class is may. refers-fresh heap class 0 refers (class_there class is.0);
    alloc = λ request class count there may is.
        refers-fresh heap class count refers (class_there class there);
    store_static = λ from field value is of.
        refers-static heap field.at (narrowed field.kind value) refers
        (kept_below field.kind field.kind value of);
    store_field = λ from holder field value n there of_class is of.
        refers-slot heap n field.at (narrowed field.kind value) refers there
        (kept_below field.kind field.kind value of);
    store_element = λ from array index kind value n i there has within of.
        let own = own_kind set world kind n in
        refers-slot heap n i (narrowed own value) refers there (kept_below kind own value of);
    read_static = λ from field is. refers;
    read_field = λ from holder field n there of is. refers;
    read_element = λ from array index kind n i there has within. refers;
    measure = λ from array n count. refers;
    test = λ from object target o b quiet. quiet_leaves o quiet;
    compare = λ from left right is_same. refers;
    other = λ request o r quiet no_value is. quiet_leaves o quiet;
  }

  pub step-refers : (t taken : ℕ) (request : PlainRequest) (o : Op) (r : PlainReply)
      → IsFit set world t request → step set world t taken request ≡ Does o r
      → RefersWithin (heap_after_op heap o)
  step-refers t taken request o r fit does =
      step_gives set world Leaves leaves_of_parts t taken request fit o r does

  -- ---- what the reply names

  abbrev IsThere : PlainRequest → Op → PlainReply → Type 0
  IsThere request o r = NamesBelow (length (heap_after_op heap o).objects) r

  next_there : (shape count : ℕ) → objects < length (with_fresh heap shape count).objects
  next_there shape count =
      let fresh : Obj = record { shape = shape; values = fresh_values (shape_at heap shape) count } in
      omega (arith, length-append heap.objects (fresh ∷ []))

  slot_below : (n i : ℕ) → n < objects → IsBelow objects (slice_index_or (values_of heap n) i Null)
  slot_below n i there =
      value_below_at objects (values_of heap n) i
      (All-get_or (λ (o : Obj). All (IsBelow objects) o.values) heap.objects n no_object there refers.slots)

  there_of_parts : HoldsOfParts set world IsThere
  there_of_parts = record {
    throw = λ request class is may. next_there class 0;
    alloc = λ request class count there may is. next_there class count;
    store_static = λ from field value is of. tt;
    store_field = λ from holder field value n there of_class is of. tt;
    store_element = λ from array index kind value n i there has within of. tt;
    read_static = λ from field is. value_below_at objects heap.statics field.at refers.statics;
    read_field = λ from holder field n there of is. slot_below n field.at there;
    read_element = λ from array index kind n i there has within. slot_below n i there;
    measure = λ from array n count. tt;
    test = λ from object target o b quiet. bool_below (length (heap_after_op heap o).objects) b;
    compare = λ from left right same. bool_below objects same;
    other = λ request o r quiet no_value is. names_none (length (heap_after_op heap o).objects) r no_value;
  }

  pub reply-there : (t taken : ℕ) (request : PlainRequest) (o : Op) (r : PlainReply)
      → IsFit set world t request → step set world t taken request ≡ Does o r
      → NamesBelow (length (heap_after_op heap o).objects) r
  reply-there t taken request o r fit does =
      step_gives set world IsThere there_of_parts t taken request fit o r does

  -- the class of an object is one of the set's
  pub shape-there : (n : ℕ) → n < objects → (object_at heap n).shape < length (classes_of set)
  shape-there n there =
      rw (same, length-map (classes_of set) (λ (c : ClassFacts). c.shape)) at
      (All-get_or (λ (o : Obj). o.shape < length heap.shapes) heap.objects n no_object there refers.shapes)
