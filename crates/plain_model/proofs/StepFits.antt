-- What the step of a fit request does fits the heap.
use Rattle.std.proofs.Common.{◌≡◌, ℕ, suc, ◌<◌, ◌^◌, true, [], ◌∷◌, ◌&&◌, refl, length, nat_eq, nat_lt, length-append, arith}
use Rattle.std.proofs.lemmas.Bool.{eq-eqb, lt-ltb, and_from}
use Rattle.std.proofs.lemmas.List.{length-map}
use Rattle.std.proofs.lemmas.List.Elements.{All-get_or}
use Rattle.std.proofs.lemmas.Option.{slice_get_within}
use Rattle.ap_base.specs.declared.kind.Kind.{Kind}
use Rattle.run_types.specs.declared.resolved.FieldAt.{FieldAt}
use Rattle.ap_base.specs.declared.place.Place.{Place}
use Rattle.ap_base.specs.declared.place.Place.TheVariants.{Static, Slot}
use Rattle.graph_model.specs.declared.types.Value.{Value}
use Rattle.graph_model.specs.declared.types.Value.TheVariants.{Int, Long, Null, Obj as Object}
use Rattle.graph_model.specs.declared.types.Obj.{Obj}
use Rattle.graph_model.specs.declared.types.Heap.{Heap}
use Rattle.graph_model.specs.Heaps.{IsBelow, no_object, values_of, shape_at, with_fresh, fresh_values}
use Rattle.run_history.specs.declared.act.Op.{Op}
use Rattle.run_history.specs.declared.act.Op.TheVariants as op
use Rattle.run_history.specs.Worlds.{World, has_place, is_below, is_next, may_have, fits, heap_after_op}
use Rattle.plain_model.specs.Classes.{ClassFacts}
use Rattle.plain_model.specs.Facts.{SetFacts, classes_of, class_at}
use Rattle.plain_model.specs.Kinds.{narrowed}
use Rattle.plain_model.specs.Consistent.{IsConsistent}
use Rattle.plain_model.specs.Laws.{HasItsSlots}
use Rattle.plain_model.specs.Requests.{PlainRequest, PlainReply}
use Rattle.plain_model.specs.Steps.{Does, step, shape_of, is_of, own_kind}
use Rattle.plain_model.specs.Duties.{IsFit, IsOfKind, IsInstanceField}
use Rattle.plain_model.specs.TypeLaws.{IsOfSet}
use Rattle.plain_model.proofs.FirstSound.{narrowed_below}
use Rattle.plain_model.proofs.SetHeaps.{shape_is, value_below, field_there, static_there}
use Rattle.plain_model.proofs.StepGives.{HoldsOfParts, is_quiet, step_gives}

below_passes : (n : ℕ) (value : Value) → IsBelow n value → is_below n value ≡ true
below_passes n (Int i) below = refl
below_passes n (Long i) below = refl
below_passes n Null below = refl
below_passes n (Object m) below = lt-ltb m n below

pub quiet_fits : (heap : Heap) (o : Op) → is_quiet o ≡ true → fits heap o ≡ true
quiet_fits heap (op.Alloc n shape count) quiet = absurd (let no = quiet in cc)
quiet_fits heap (op.Throw n class) quiet = absurd (let no = quiet in cc)
quiet_fits heap (op.Stored place value) quiet = absurd (let no = quiet in cc)
quiet_fits heap o quiet = refl

module _ (set : SetFacts) (world : World) (consistent : IsConsistent set)
    (of_set : IsOfSet set world.heap) where
  abbrev heap : Heap
  heap = world.heap

  -- the operation fits, where it leaves few objects
  abbrev Fits : Op → Type 0
  Fits o = length (heap_after_op heap o).objects < 2 ^ 32 → fits heap o ≡ true

  next_fits : (class count : ℕ) → class < length (classes_of set)
      → length (with_fresh heap class count).objects < 2 ^ 32
      → is_next heap (length heap.objects) class ≡ true
  next_fits class count there few =
      let n = length heap.objects in
      let fresh : Obj = record { shape = class; values = fresh_values (shape_at heap class) count } in
      let within : class < length heap.shapes =
      rw (of_set.shapes, length-map (classes_of set) (λ (c : ClassFacts). c.shape)) there in
      let more : suc n < 2 ^ 32 = omega (arith, few, length-append heap.objects (fresh ∷ [])) in
      and_from (nat_eq n n && nat_lt (suc n) (2 ^ 32)) (nat_lt class (length heap.shapes))
      (and_from (nat_eq n n) (nat_lt (suc n) (2 ^ 32)) (eq-eqb n n refl) (lt-ltb (suc n) (2 ^ 32) more))
      (lt-ltb class (length heap.shapes) within)

  alloc_fits : (class count : ℕ) → class < length (classes_of set)
      → may_have (class_at set class).shape count ≡ true
      → Fits (op.Alloc (length heap.objects) class count)
  alloc_fits class count there may few =
      and_from (is_next heap (length heap.objects) class) (may_have (shape_at heap class) count)
      (next_fits class count there few) (rw (shape_is set heap of_set.shapes class) may)

  -- a store fits where its place is there
  store_fits : (place : Place) (kind own : Kind) (value : Value) → has_place heap place ≡ true
      → IsOfKind world kind value → Fits (op.Stored place (narrowed own value))
  store_fits place kind own value there of few =
      let n = length heap.objects in
      and_from (has_place heap place) (is_below n (narrowed own value)) there
      (below_passes n (narrowed own value) (narrowed_below n own value (value_below world kind value of)))

  slot_passes : (n i : ℕ) → n < length heap.objects → i < length (values_of heap n)
      → has_place heap (Slot n i) ≡ true
  slot_passes n i there within =
      and_from (nat_lt n (length heap.objects)) (nat_lt i (length (values_of heap n)))
      (lt-ltb n (length heap.objects) there) (lt-ltb i (length (values_of heap n)) within)

  -- an object has a slot for each field of its class
  field_within : (n : ℕ) (field : FieldAt) → n < length heap.objects → is_of set world field.class n ≡ true
      → IsInstanceField set field → field.at < length (values_of heap n)
  field_within n field there of is =
      let slot = field_there set world consistent n field of is in
      let m = shape_of set world n in
      let same = shape_is set heap of_set.shapes m in
      let none : (shape_at heap m).element ≡ _ = rw same (slot.has.no_elements) in
      let its = All-get_or (HasItsSlots heap) heap.objects n no_object there of_set.slots none in
      let at = slice_get_within (class_at set m).shape.fields field.at slot.own slot.has.field in
      rw (its, same) at

  fits_of_parts : HoldsOfParts set world (λ request o r. Fits o)
  fits_of_parts = record {
    throw = λ request class is may few. next_fits class 0 is.0 few;
    alloc = λ request class count there may is. alloc_fits class count there may;
    store_static = λ from field value is of.
        let there : field.at < length heap.statics =
        omega (arith, static_there set field is, of_set.statics) in
        store_fits (Static field.at) field.kind field.kind value
        (lt-ltb field.at (length heap.statics) there) of;
    store_field = λ from holder field value n there of_class is of.
        store_fits (Slot n field.at) field.kind field.kind value
        (slot_passes n field.at there (field_within n field there of_class is)) of;
    store_element = λ from array index kind value n i there has within of.
        store_fits (Slot n i) kind (own_kind set world kind n) value (slot_passes n i there within) of;
    read_static = λ from field is few. refl;
    read_field = λ from holder field n there of is few. refl;
    read_element = λ from array index kind n i there has within few. refl;
    measure = λ from array n count few. refl;
    test = λ from object target o b quiet few. quiet_fits heap o quiet;
    compare = λ from left right same few. refl;
    other = λ request o r quiet no_value is few. quiet_fits heap o quiet;
  }

  pub step_fits : (t taken : ℕ) (request : PlainRequest) (o : Op) (r : PlainReply) → IsFit set world t request
      → step set world t taken request ≡ Does o r → Fits o
  step_fits t taken request o r fit does =
      step_gives set world (λ request o r. Fits o) fits_of_parts t taken request fit o r does
