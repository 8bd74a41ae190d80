-- The step of a fit request leaves the heap typed.
use Rattle.std.proofs.Common.{◌≡◌, ℕ, zero, suc, ◌<◌, true, List, [], ◌∷◌, subst, map, length, replicate, inl, inr, slice_set}
use Rattle.std.proofs.Common.{slice_get, slice_index_or, length-set, arith}
use Rattle.std.specs.Prelude.{Option, Some, None}
use Rattle.std.specs.List.{AllZip}
use Rattle.std.proofs.lemmas.Bool.Decides.{eqb_tells}
use Rattle.std.proofs.lemmas.List.{get_or-set_same, get_or-set_other}
use Rattle.std.proofs.lemmas.List.Elements.{All-get_or, All-push, All-replicate, All-set}
use Rattle.ap_base.specs.declared.kind.Kind.{Kind}
use Rattle.ap_base.specs.declared.place.Place.TheVariants.{Static, Slot}
use Rattle.graph_model.specs.declared.types.Value.{Value}
use Rattle.graph_model.specs.declared.types.Value.TheVariants.{Null}
use Rattle.graph_model.specs.declared.types.Field.{Field}
use Rattle.graph_model.specs.declared.types.Shape.{Shape}
use Rattle.graph_model.specs.declared.types.Heap.{Heap}
use Rattle.graph_model.specs.Heaps.{default_of, no_object, object_at, shape_at, with_slot, with_fresh, fresh_values, stored}
use Rattle.run_history.specs.declared.act.Op.{Op}
use Rattle.run_history.specs.Worlds.{World, heap_after_op}
use Rattle.plain_model.specs.Facts.{SetFacts, class_at, shapes_of}
use Rattle.plain_model.specs.Kinds.{IsOf, AreOf, narrowed}
use Rattle.plain_model.specs.Consistent.{IsConsistent}
use Rattle.plain_model.specs.Requests.{PlainRequest, PlainReply}
use Rattle.plain_model.specs.Steps.{Does, step, shape_of, own_kind}
use Rattle.plain_model.specs.Duties.{IsFit, IsOfKind}
use Rattle.plain_model.specs.Typed.{static_kind, IsOfItsClass, IsTyped}
use Rattle.plain_model.proofs.SetHeaps.{shape_is, form_is, has_serving, field_there, static_kind_is}
use Rattle.plain_model.proofs.StepGives.{HoldsOfParts, is_quiet, quiet_keeps, step_gives}
use Rattle.plain_model.proofs.Typing.{narrowed_is, default_is}

-- ---- values of an object

abbrev Fills : Field → Value → Type 0
Fills f value = IsOf f.kind value

defaults_fill : (fields : List Field) → AllZip Fills fields (map (λ (f : Field). default_of f.kind) fields)
defaults_fill [] = tt
defaults_fill (f ∷ fs) = (default_is f.kind, defaults_fill fs)

fresh_are : (shape : Shape) (count : ℕ) → AreOf shape.element shape.fields (fresh_values shape count)
fresh_are shape count = elim shape.element as (λ element. AreOf element shape.fields (elim element [
  | None ↦ map (λ (f : Field). default_of f.kind) shape.fields
  | Some kind ↦ replicate count (default_of kind)
])) [
  | None ↦ defaults_fill shape.fields
  | Some kind ↦ All-replicate (IsOf kind) count (default_of kind) (default_is kind)
]

-- a field's slot is given a value of the field's kind
fills_set : (fields : List Field) (values : List Value) (i : ℕ) (f : Field) (value : Value)
    → AllZip Fills fields values → slice_get fields i ≡ Some f → IsOf f.kind value
    → AllZip Fills fields (slice_set values i value)
fills_set [] [] i f value fill at is = tt
fills_set [] (v ∷ vs) i f value fill at is = absurd fill
fills_set (g ∷ gs) [] i f value fill at is = absurd fill
fills_set (g ∷ gs) (v ∷ vs) zero f value fill at is =
    let same : f ≡ g = (let e : Some g ≡ Some f = at in cc) in (rw (← same) is, fill.1)
fills_set (g ∷ gs) (v ∷ vs) (suc i) f value fill at is = (fill.0, fills_set gs vs i f value fill.1 at is)

with_field : (element : Option Kind) (fields : List Field) (values : List Value) (i : ℕ) (f : Field)
    (value : Value)
    → element ≡ None → AreOf element fields values → slice_get fields i ≡ Some f → IsOf f.kind value
    → AreOf element fields (slice_set values i value)
with_field None fields values i f value none are at is = fills_set fields values i f value are at is
with_field (Some kind) fields values i f value none are at is =
    absurd (let no : ◌≡◌ {A = Option Kind} (Some kind) None = none in cc)

with_element : (element : Option Kind) (fields : List Field) (values : List Value) (i : ℕ) (kind : Kind)
    (value : Value)
    → element ≡ Some kind → AreOf element fields values → IsOf kind value
    → AreOf element fields (slice_set values i value)
with_element None fields values i kind value some are is =
    absurd (let no : ◌≡◌ {A = Option Kind} None (Some kind) = some in cc)
with_element (Some other) fields values i kind value some are is =
    let same : kind ≡ other = (let e : ◌≡◌ {A = Option Kind} (Some other) (Some kind) = some in cc) in
    All-set (IsOf other) values i value (subst (λ k. IsOf k value) same is) are

-- ---- heaps

module _ (set : SetFacts) (heap : Heap) (typed : IsTyped set heap) where
  typed-with_fresh : heap.shapes ≡ shapes_of set → (class count : ℕ)
      → IsTyped set (with_fresh heap class count)
  typed-with_fresh same class count = record {
    objects = All-push (IsOfItsClass set) heap.objects
        (record { shape = class; values = fresh_values (shape_at heap class) count }) typed.objects
        (rw (shape_is set heap same class) (fresh_are (class_at set class).shape count));
    statics = typed.statics;
  }

  static_is : (n : ℕ) (value : Value) → IsOf (static_kind set n) value → (k : ℕ)
      → k < length (slice_set heap.statics n value)
      → IsOf (static_kind set k) (slice_index_or (slice_set heap.statics n value) k Null)
  static_is n value is k within =
      let there : k < length heap.statics = omega (arith, within, length-set heap.statics n value) in
      elim (eqb_tells k n) [
        | inl (e, same) ↦ rw same (rw (get_or-set_same heap.statics n value Null (rw same at there)) is)
        | inr (e, other) ↦ rw (get_or-set_other heap.statics n k value Null other) (typed.statics k there)
      ]

  typed-stored_static : (n : ℕ) (value : Value) → IsOf (static_kind set n) value
      → IsTyped set (stored heap (Static n) value)
  typed-stored_static n value is = record { objects = typed.objects; statics = static_is n value is }

  typed-stored_slot : (n i : ℕ) (value : Value) → n < length heap.objects
      → (IsOfItsClass set (object_at heap n) → IsOfItsClass set (with_slot (object_at heap n) i value))
      → IsTyped set (stored heap (Slot n i) value)
  typed-stored_slot n i value there keeps = record {
    objects = All-set (IsOfItsClass set) heap.objects n (with_slot (object_at heap n) i value)
        (keeps (All-get_or (IsOfItsClass set) heap.objects n no_object there typed.objects)) typed.objects;
    statics = typed.statics;
  }

-- ---- the step

module _ (set : SetFacts) (world : World) (consistent : IsConsistent set)
    (same : world.heap.shapes ≡ shapes_of set)
    (typed : IsTyped set world.heap) where
  abbrev heap : Heap
  heap = world.heap

  abbrev LeavesTyped : Op → Type 0
  LeavesTyped o = IsTyped set (heap_after_op heap o)

  quiet_typed : (o : Op) → is_quiet o ≡ true → LeavesTyped o
  quiet_typed o quiet = rw (quiet_keeps heap o quiet) typed

  -- the value that a place of the kind keeps
  narrowed_of : (kind : Kind) (value : Value) → IsOfKind world kind value → IsOf kind (narrowed kind value)
  narrowed_of kind value of = narrowed_is kind value (form_is world kind value of)

  typed_of_parts : HoldsOfParts set world (λ request o r. LeavesTyped o)
  typed_of_parts = record {
    throw = λ request class is may. typed-with_fresh set heap typed same class 0;
    alloc = λ request class count there may is. typed-with_fresh set heap typed same class count;
    store_static = λ from field value is of.
        typed-stored_static set heap typed field.at (narrowed field.kind value)
        (rw (static_kind_is set field is) (narrowed_of field.kind value of));
    store_field = λ from holder field value n there of_class is of.
        let slot = field_there set world consistent n field of_class is in
        let shape = (class_at set (shape_of set world n)).shape in
        typed-stored_slot set heap typed n field.at (narrowed field.kind value) there (λ are.
        with_field shape.element shape.fields (object_at heap n).values field.at slot.own
        (narrowed field.kind value)
        slot.has.no_elements are slot.has.field (rw slot.kind (narrowed_of field.kind value of)));
    store_element = λ from array index kind value n i there has within of.
        let element = has_serving set world kind n has in
        let own = own_kind set world kind n in
        let shape = (class_at set (shape_of set world n)).shape in
        typed-stored_slot set heap typed n i (narrowed own value) there (λ are.
        with_element shape.element shape.fields (object_at heap n).values i own (narrowed own value)
        element.elements are (narrowed_is own value (element.serves.stores value of)));
    read_static = λ from field is. typed;
    read_field = λ from holder field n there of is. typed;
    read_element = λ from array index kind n i there has within. typed;
    measure = λ from array n count. typed;
    test = λ from object target o b quiet. quiet_typed o quiet;
    compare = λ from left right is_same. typed;
    other = λ request o r quiet no_value is. quiet_typed o quiet;
  }

  pub step_leaves_typed : (t taken : ℕ) (request : PlainRequest) (o : Op) (r : PlainReply)
      → IsFit set world t request
      → step set world t taken request ≡ Does o r → LeavesTyped o
  step_leaves_typed t taken request o r fit does =
      step_gives set world (λ request o r. LeavesTyped o) typed_of_parts t taken request fit o r does
