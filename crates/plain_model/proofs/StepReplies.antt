-- The reply to a fit request is of the request's kind, and what it names is there after the step.
use Rattle.std.proofs.Common.{◌≡◌, ℕ, zero, suc, ◌<◌, true, false, Bool, List, [], ◌∷◌, refl, length, inl, inr, slice_get}
use Rattle.std.proofs.Common.{slice_index_or, length-append, arith}
use Rattle.std.specs.Prelude.{All, Option, Some, None}
use Rattle.std.specs.List.{AllZip}
use Rattle.std.proofs.lemmas.Bool.{cases_lt}
use Rattle.std.proofs.lemmas.List.{get_or_past}
use Rattle.std.proofs.lemmas.List.Elements.{All-get_or}
use Rattle.ap_base.specs.declared.kind.Kind.{Kind}
use Rattle.ap_base.specs.declared.kind.Kind.TheVariants.{Z}
use Rattle.run_types.specs.declared.resolved.FieldAt.{FieldAt}
use Rattle.graph_model.specs.declared.types.Value.{Value}
use Rattle.graph_model.specs.declared.types.Value.TheVariants.{Null}
use Rattle.graph_model.specs.declared.types.Field.{Field}
use Rattle.graph_model.specs.declared.types.Obj.{Obj}
use Rattle.graph_model.specs.declared.types.Heap.{Heap}
use Rattle.graph_model.specs.Heaps.{IsBelow, IsSound, no_object, object_at, values_of, shape_at, with_fresh, fresh_values}
use Rattle.natives.specs.declared.requests.Reply.TheVariants as reply
use Rattle.run_history.specs.declared.act.Op.{Op}
use Rattle.run_history.specs.Worlds.{World, heap_after_op}
use Rattle.plain_model.specs.Facts.{SetFacts, class_at}
use Rattle.plain_model.specs.Kinds.{IsOf, AreOf}
use Rattle.plain_model.specs.Consistent.{IsConsistent}
use Rattle.plain_model.specs.Requests.{PlainRequest, PlainReply}
use Rattle.plain_model.specs.Steps.{Does, step, bool_value, shape_of, own_kind, is_of, has_elements}
use Rattle.plain_model.specs.Duties.{IsFit, IsStaticField, IsInstanceField}
use Rattle.plain_model.specs.Typed.{IsOfItsClass, IsTyped}
use Rattle.plain_model.specs.Replies.{NamesBelow, IsReplyTo, read_kind}
use Rattle.plain_model.specs.TypeLaws.{IsOfSet}
use Rattle.plain_model.proofs.SetHeaps.{has_serving, field_there, static_there, static_kind_is}
use Rattle.plain_model.proofs.StepGives.{HoldsOfParts, has_value, step_gives}

bool_is : (b : Bool) → IsOf Z (bool_value b)
bool_is true = record { form = tt; range = refl }
bool_is false = record { form = tt; range = refl }

-- ---- kinds

field_fills : (fields : List Field) (values : List Value) (i : ℕ) (f : Field)
    → AllZip (λ (f : Field) value. IsOf f.kind value) fields values → slice_get fields i ≡ Some f
    → IsOf f.kind (slice_index_or values i Null)
field_fills [] values i f fill at = absurd (let no : ◌≡◌ {A = Option Field} None (Some f) = at in cc)
field_fills (g ∷ gs) [] i f fill at = absurd fill
field_fills (g ∷ gs) (v ∷ vs) zero f fill at =
    let same : f ≡ g = (let e : Some g ≡ Some f = at in cc) in rw same fill.0
field_fills (g ∷ gs) (v ∷ vs) (suc i) f fill at = field_fills gs vs i f fill.1 at

field_value : (element : Option Kind) (fields : List Field) (values : List Value) (i : ℕ) (f : Field)
    → element ≡ None → AreOf element fields values → slice_get fields i ≡ Some f
    → IsOf f.kind (slice_index_or values i Null)
field_value None fields values i f none are at = field_fills fields values i f are at
field_value (Some kind) fields values i f none are at =
    absurd (let no : ◌≡◌ {A = Option Kind} (Some kind) None = none in cc)

element_value : (element : Option Kind) (fields : List Field) (values : List Value) (i : ℕ) (kind : Kind)
    → element ≡ Some kind → AreOf element fields values → i < length values
    → IsOf kind (slice_index_or values i Null)
element_value None fields values i kind some are within =
    absurd (let no : ◌≡◌ {A = Option Kind} None (Some kind) = some in cc)
element_value (Some other) fields values i kind some are within =
    let same : kind ≡ other = (let e : ◌≡◌ {A = Option Kind} (Some other) (Some kind) = some in cc) in
    rw same (All-get_or (IsOf other) values i Null within are)

module _ (set : SetFacts) (world : World) (consistent : IsConsistent set) (of_set : IsOfSet set world.heap)
    (typed : IsTyped set world.heap) where
  abbrev heap : Heap
  heap = world.heap

  abbrev IsReplied : PlainRequest → Op → PlainReply → Type 0
  IsReplied request o r = IsReplyTo set request r

  static_read : (field : FieldAt) → IsStaticField set field
      → IsOf field.kind (slice_index_or heap.statics field.at Null)
  static_read field is =
      let there : field.at < length heap.statics = omega (arith, static_there set field is, of_set.statics) in
      rw (static_kind_is set field is) at (typed.statics field.at there)

  object_is : (n : ℕ) → n < length heap.objects → IsOfItsClass set (object_at heap n)
  object_is n there = All-get_or (IsOfItsClass set) heap.objects n no_object there typed.objects

  field_read : (n : ℕ) (field : FieldAt) → n < length heap.objects → is_of set world field.class n ≡ true
      → IsInstanceField set field → IsOf field.kind (slice_index_or (values_of heap n) field.at Null)
  field_read n field there of is =
      let slot = field_there set world consistent n field of is in
      let shape = (class_at set (shape_of set world n)).shape in
      rw (slot.kind) at (field_value shape.element shape.fields (values_of heap n) field.at slot.own
      slot.has.no_elements (object_is n there) slot.has.field)

  element_read : (kind : Kind) (n i : ℕ) → n < length heap.objects → has_elements set world kind n ≡ true
      → i < length (values_of heap n) → IsOf (read_kind kind) (slice_index_or (values_of heap n) i Null)
  element_read kind n i there has within =
      let element = has_serving set world kind n has in
      let shape = (class_at set (shape_of set world n)).shape in
      element.serves.reads (slice_index_or (values_of heap n) i Null)
      (element_value shape.element shape.fields (values_of heap n) i (own_kind set world kind n)
      element.elements (object_is n there) within)

  kinds_of_parts : HoldsOfParts set world IsReplied
  kinds_of_parts = record {
    throw = λ request class is may. may;
    alloc = λ request class count there may is. is;
    store_static = λ from field value is of. tt;
    store_field = λ from holder field value n there of_class is of. tt;
    store_element = λ from array index kind value n i there has within of. tt;
    read_static = λ from field is. static_read field is;
    read_field = λ from holder field n there of is. field_read n field there of is;
    read_element = λ from array index kind n i there has within. element_read kind n i there has within;
    measure = λ from array n count. record { form = tt; range = tt };
    test = λ from object target o b quiet. bool_is b;
    compare = λ from left right same. bool_is same;
    other = λ request o r quiet no_value is. is;
  }

  pub reply_is_of_its_kind : (t taken : ℕ) (request : PlainRequest) (o : Op) (r : PlainReply)
      → IsFit set world t request → step set world t taken request ≡ Does o r → IsReplyTo set request r
  reply_is_of_its_kind t taken request o r fit does =
      step_gives set world IsReplied kinds_of_parts t taken request fit o r does

-- ---- objects

value_below_at : (n : ℕ) (values : List Value) (i : ℕ) → All (IsBelow n) values
    → IsBelow n (slice_index_or values i Null)
value_below_at n values i all = elim (cases_lt i (length values)) [
  | inl there ↦ All-get_or (IsBelow n) values i Null there all
  | inr past ↦ rw (get_or_past values i Null past) tt
]

names_none : (n : ℕ) (r : PlainReply) → has_value r ≡ false → NamesBelow n r
names_none n (reply.Item value) none = absurd (let no = none in cc)
names_none n (reply.Made object) none = absurd (let no = none in cc)
names_none n (reply.Thrown object class) none = absurd (let no = none in cc)
names_none n r none = tt

bool_below : (n : ℕ) (b : Bool) → IsBelow n (bool_value b)
bool_below n true = tt
bool_below n false = tt

module _ (set : SetFacts) (world : World) (sound : IsSound world.heap) where
  abbrev objects : ℕ
  objects = length world.heap.objects

  -- what the reply names is there after the operation
  abbrev IsThere : PlainRequest → Op → PlainReply → Type 0
  IsThere request o r = NamesBelow (length (heap_after_op world.heap o).objects) r

  next_there : (shape count : ℕ) → objects < length (with_fresh world.heap shape count).objects
  next_there shape count =
      let fresh : Obj = record { shape = shape; values = fresh_values (shape_at world.heap shape) count } in
      omega (arith, length-append world.heap.objects (fresh ∷ []))

  slot_below : (n i : ℕ) → n < objects → IsBelow objects (slice_index_or (values_of world.heap n) i Null)
  slot_below n i there =
      value_below_at objects (values_of world.heap n) i
      (All-get_or (λ (o : Obj). All (IsBelow objects) o.values) world.heap.objects n no_object there
      sound.slots)

  there_of_parts : HoldsOfParts set world IsThere
  there_of_parts = record {
    throw = λ request class is may. next_there class 0;
    alloc = λ request class count there may is. next_there class count;
    store_static = λ from field value is of. tt;
    store_field = λ from holder field value n there of_class is of. tt;
    store_element = λ from array index kind value n i there has within of. tt;
    read_static = λ from field is. value_below_at objects world.heap.statics field.at sound.statics;
    read_field = λ from holder field n there of is. slot_below n field.at there;
    read_element = λ from array index kind n i there has within. slot_below n i there;
    measure = λ from array n count. tt;
    test = λ from object target o b quiet. bool_below (length (heap_after_op world.heap o).objects) b;
    compare = λ from left right same. bool_below objects same;
    other = λ request o r quiet no_value is.
        names_none (length (heap_after_op world.heap o).objects) r no_value;
  }

  pub reply_is_there : (t taken : ℕ) (request : PlainRequest) (o : Op) (r : PlainReply)
      → IsFit set world t request → step set world t taken request ≡ Does o r
      → NamesBelow (length (heap_after_op world.heap o).objects) r
  reply_is_there t taken request o r fit does =
      step_gives set world IsThere there_of_parts t taken request fit o r does
