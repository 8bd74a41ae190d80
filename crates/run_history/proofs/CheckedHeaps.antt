-- An operation that fits a sound heap leaves it sound.
use Rattle.std.proofs.Common.{◌≡◌, ℕ, suc, ◌<◌, ◌≤◌, ◌^◌, true, false, [], ◌∷◌, ◌++◌, length, map, replicate, set, subst, refl}
use Rattle.std.proofs.Common.{sym, ◌∙◌, nat_eq, nat_lt, ◌&&◌, if◌then◌else◌, arith, length-append, length-set}
use Rattle.std.specs.Prelude.{All, None, Some, slice_index_or}
use Rattle.std.proofs.lemmas.Bool.{ltb-true, eqb-true, and_parts}
use Rattle.std.proofs.lemmas.List.Elements.{All-push, All-set, All-weaker, All-map, All-replicate}
use Rattle.ap_base.specs.declared.kind.Kind.{Kind}
use Rattle.ap_base.specs.declared.kind.Kind.TheVariants.{Z, B, C, S, I, J, L, Text}
use Rattle.ap_base.specs.declared.place.Place.{Place}
use Rattle.ap_base.specs.declared.place.Place.TheVariants.{Static, Slot}
use Rattle.graph_model.specs.declared.types.Value.{Value}
use Rattle.graph_model.specs.declared.types.Value.TheVariants.{Int, Long, Null, Obj as Object}
use Rattle.graph_model.specs.declared.types.Field.{Field}
use Rattle.graph_model.specs.declared.types.Shape.{Shape}
use Rattle.graph_model.specs.declared.types.Obj.{Obj}
use Rattle.graph_model.specs.declared.types.Heap.{Heap}
use Rattle.graph_model.specs.Heaps.{IsSound, IsBelow, HasPlace, default_of, fresh_values, shape_at, with_fresh, stored}
use Rattle.graph_model.specs.Heaps.{object_at, values_of, with_slot, no_object}
use Rattle.run_history.specs.declared.act.Op.{Op}
use Rattle.run_history.specs.declared.act.Op.TheVariants as op
use Rattle.run_history.specs.Worlds.{has_place, is_below, is_next, may_have, fits, heap_after_op, heap_after_op_checked}

IsBelow-from_test : (n : ℕ) (value : Value) → is_below n value ≡ true → IsBelow n value
IsBelow-from_test n (Int i) e = tt
IsBelow-from_test n (Long i) e = tt
IsBelow-from_test n Null e = tt
IsBelow-from_test n (Object m) e = ltb-true m n e

HasPlace-from_test : (heap : Heap) (place : Place) → has_place heap place ≡ true → HasPlace heap place
HasPlace-from_test heap (Static n) e = ltb-true n (length heap.statics) e
HasPlace-from_test heap (Slot n i) e =
    let tests = and_parts (nat_lt n (length heap.objects)) (nat_lt i (length (values_of heap n))) e in
    (ltb-true n (length heap.objects) tests.0, ltb-true i (length (values_of heap n)) tests.1)

IsBelow-more : (n m : ℕ) → n ≤ m → (value : Value) → IsBelow n value → IsBelow m value
IsBelow-more n m order (Int i) below = tt
IsBelow-more n m order (Long i) below = tt
IsBelow-more n m order Null below = tt
IsBelow-more n m order (Object k) below = omega (arith, order, below)

IsBelow-default : (n : ℕ) (kind : Kind) → IsBelow n (default_of kind)
IsBelow-default n Z = tt
IsBelow-default n B = tt
IsBelow-default n C = tt
IsBelow-default n S = tt
IsBelow-default n I = tt
IsBelow-default n J = tt
IsBelow-default n L = tt
IsBelow-default n Text = tt

-- a new object refers to nothing
fresh_values-below : (n : ℕ) (shape : Shape) (count : ℕ) → All (IsBelow n) (fresh_values shape count)
fresh_values-below n shape count =
    let fields = map (λ (f : Field). default_of f.kind) shape.fields in
    let elements = λ (kind : Kind). replicate count (default_of kind) in
    let default = λ (f : Field). default_of f.kind in
    elim shape.element as (λ element. All (IsBelow n) (elim element [ None ↦ fields | Some kind ↦ elements kind ])) [
      | None ↦
          All-map (IsBelow n) default shape.fields (λ k d _. IsBelow-default n (slice_index_or shape.fields k d).kind)
      | Some kind ↦ All-replicate (IsBelow n) count (default_of kind) (IsBelow-default n kind)
    ]

-- the parts of the test of a new object
record IsNext (heap : Heap) (n shape : ℕ) : Type 0 where
  number : n ≡ length heap.objects
  room : suc n < 2 ^ 32
  there : shape < length heap.shapes

IsNext-from_test : (heap : Heap) (n shape : ℕ) → is_next heap n shape ≡ true → IsNext heap n shape
IsNext-from_test heap n shape e =
    let is_there = nat_lt shape (length heap.shapes) in
    let tests = and_parts (nat_eq n (length heap.objects) && nat_lt (suc n) (2 ^ 32)) is_there e in
    let numbers = and_parts (nat_eq n (length heap.objects)) (nat_lt (suc n) (2 ^ 32)) tests.0 in
    record {
      number = eqb-true n (length heap.objects) numbers.0;
      room = ltb-true (suc n) (2 ^ 32) numbers.1;
      there = ltb-true shape (length heap.shapes) tests.1;
    }

with_fresh-sound : (heap : Heap) (n shape count : ℕ)
    → IsSound heap → IsNext heap n shape → IsSound (with_fresh heap shape count)
with_fresh-sound heap n shape count sound next =
    let fresh : Obj = record { shape = shape; values = fresh_values (shape_at heap shape) count } in
    let few = length heap.objects in
    let more = length (heap.objects ++ fresh ∷ []) in
    let longer : more ≡ suc few = length-append heap.objects (fresh ∷ []) ∙ omega arith in
    let below = IsBelow-more few more (omega (arith, longer)) in
    record {
      few = omega (arith, longer, next.number, next.room);
      shapes = All-push (λ (o : Obj). o.shape < length heap.shapes) heap.objects fresh sound.shapes next.there;
      slots = All-push (λ (o : Obj). All (IsBelow more) o.values) heap.objects fresh
          (λ k d inside.
          All-weaker (IsBelow few) (IsBelow more) below (slice_index_or heap.objects k d).values (sound.slots k d inside))
          (fresh_values-below more (shape_at heap shape) count);
      statics = All-weaker (IsBelow few) (IsBelow more) below heap.statics sound.statics;
      roots = sound.roots;
    }

static-sound : (heap : Heap) (n : ℕ) (value : Value)
    → IsSound heap → IsBelow (length heap.objects) value → IsSound (stored heap (Static n) value)
static-sound heap n value sound below = record {
  few = sound.few;
  shapes = sound.shapes;
  slots = sound.slots;
  statics = All-set (IsBelow (length heap.objects)) heap.statics n value below sound.statics;
  roots = λ k d inside. omega (arith, sound.roots k d inside, length-set heap.statics n value);
}

slot-sound : (heap : Heap) (n i : ℕ) (value : Value)
    → IsSound heap → n < length heap.objects → IsBelow (length heap.objects) value → IsSound (stored heap (Slot n i) value)
slot-sound heap n i value sound there below =
    let object = with_slot (object_at heap n) i value in
    let same = length-set heap.objects n object in
    let Below : ℕ → Obj → Type 0 = λ m o. All (IsBelow m) o.values in
    let AllBelow : ℕ → Type 0 = λ m. All (Below m) (set heap.objects n object) in
    let values : Below (length heap.objects) object
    = All-set (IsBelow (length heap.objects)) (values_of heap n) i value below (sound.slots n no_object there) in
    let HasShape : Obj → Type 0 = λ o. o.shape < length heap.shapes in
    record {
      few = omega (arith, same, sound.few);
      shapes = All-set HasShape heap.objects n object (sound.shapes n no_object there) sound.shapes;
      slots = subst AllBelow (sym same) (All-set (Below (length heap.objects)) heap.objects n object values sound.slots);
      statics = rw same sound.statics;
      roots = sound.roots;
    }

stored-sound : (heap : Heap) (place : Place) (value : Value)
    → IsSound heap → HasPlace heap place → IsBelow (length heap.objects) value → IsSound (stored heap place value)
stored-sound heap (Static n) value sound there below = static-sound heap n value sound below
stored-sound heap (Slot n i) value sound there below = slot-sound heap n i value sound there.0 below

fits-sound : (heap : Heap) (o : Op) → IsSound heap → fits heap o ≡ true → IsSound (heap_after_op heap o)
fits-sound heap (op.Alloc n shape count) sound fit =
    let tests = and_parts (is_next heap n shape) (may_have (shape_at heap shape) count) fit in
    with_fresh-sound heap n shape count sound (IsNext-from_test heap n shape tests.0)
fits-sound heap (op.Throw n class) sound fit = with_fresh-sound heap n class 0 sound (IsNext-from_test heap n class fit)
fits-sound heap (op.Stored place value) sound fit =
    let tests = and_parts (has_place heap place) (is_below (length heap.objects) value) fit in
    stored-sound heap place value sound (HasPlace-from_test heap place tests.0)
    (IsBelow-from_test (length heap.objects) value tests.1)
fits-sound heap o sound fit = sound

pub checked-sound : (heap : Heap) (o : Op) → IsSound heap → IsSound (heap_after_op_checked heap o)
checked-sound heap o sound =
    elim (fits heap o) as (λ b. fits heap o ≡ b → IsSound (if b then heap_after_op heap o else heap)) [
      | true ↦ λ fit. fits-sound heap o sound fit
      | false ↦ λ _. sound
    ] refl
