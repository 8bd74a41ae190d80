-- Heaps after stores and with new objects.
use Rattle.std.proofs.Common.{◌≡◌, ℕ, ◌+◌, ◌-◌, ◌^◌, ◌<◌, List, [], ◌∷◌, ◌++◌, map, replicate, Some, None, refl, ap, sym, ◌∙◌}
use Rattle.std.proofs.Common.{subst, arith, length, slice_index_or, slice_set, if◌then◌else◌, nat_eq, inl, inr}
use Rattle.std.specs.Prelude.{All}
use Rattle.std.proofs.lemmas.Bool.{cases_lt, cases_eq, eq-eqb, ne_eqb}
use Rattle.std.proofs.lemmas.List.{get_or-set_same, get_or-set_other, length-set, length_push, set_past}
use Rattle.std.proofs.lemmas.List.Elements.{All-set, All-push, All-weaker, All-map, All-replicate}
use Rattle.ap_base.specs.declared.kind.Kind.{Kind}
use Rattle.ap_base.specs.declared.kind.Kind.TheVariants.{Z, B, C, S, I, J, L, Text}
use Rattle.ap_base.specs.declared.place.Place.{Place}
use Rattle.ap_base.specs.declared.place.Place.TheVariants.{Static, Slot}
use Rattle.graph_model.specs.declared.types.Value.{Value}
use Rattle.graph_model.specs.declared.types.Value.TheVariants.{Int, Long, Null, Obj as Object}
use Rattle.graph_model.specs.declared.types.Field.{Field}
use Rattle.graph_model.specs.declared.types.Shape.{Shape}
use Rattle.graph_model.specs.declared.types.Obj.{Obj}
use Rattle.graph_model.specs.declared.types.Heap.{Heap}
use Rattle.graph_model.specs.Heaps.{default_of, fresh_values, with_slot, no_object, object_at, shape_at, values_of, IsBelow}
use Rattle.graph_model.specs.Heaps.{IsSound, HasPlace, value_at, stored, with_fresh, place_is}

-- a list after a write, read at any place
get_or-set : {X : Type 0} (xs : List X) (n m : ℕ) (x d : X) → n < length xs
    → slice_index_or (slice_set xs n x) m d ≡ (if nat_eq n m then x else slice_index_or xs m d)
get_or-set xs n m x d l = elim (cases_eq n m) [
  | inl e ↦ rw (eq-eqb n m e) (ap (λ k. slice_index_or (slice_set xs n x) k d) (sym e) ∙ get_or-set_same xs n x d l)
  | inr e ↦ rw (ne_eqb n m e) (get_or-set_other xs n m x d (λ f. e (sym f)))
]

pub value_at-stored : (heap : Heap) (place other : Place) (value : Value) → HasPlace heap place
    → value_at (stored heap place value) other ≡ (if place_is place other then value else value_at heap other)
value_at-stored heap (Static n) (Static m) value h = get_or-set heap.statics n m value Null h
value_at-stored heap (Static n) (Slot m j) value h = refl
value_at-stored heap (Slot n i) (Static m) value h = refl
value_at-stored heap (Slot n i) (Slot m j) value h = elim (cases_eq n m) [
  | inl e ↦ rw (eq-eqb n m e) (
      ap (λ k. slice_index_or (values_of (stored heap (Slot n i) value) k) j Null) (sym e)
      ∙ ap (λ (o : Obj). slice_index_or o.values j Null)
      (get_or-set_same heap.objects n (with_slot (object_at heap n) i value) no_object h.0)
      ∙ get_or-set (values_of heap n) i j value Null h.1
      ∙ ap (λ k. if nat_eq i j then value else slice_index_or (values_of heap k) j Null) e)
  | inr e ↦ rw (ne_eqb n m e) (
      ap (λ (o : Obj). slice_index_or o.values j Null)
      (get_or-set_other heap.objects n m (with_slot (object_at heap n) i value) no_object (λ f. e (sym f))))
]

pub stored-sound : (heap : Heap) (place : Place) (value : Value) → IsSound heap → IsBelow (length heap.objects) value
    → IsSound (stored heap place value)
stored-sound heap (Static n) value sound below = record {
  few = sound.few;
  shapes = sound.shapes;
  slots = sound.slots;
  statics = All-set (IsBelow (length heap.objects)) heap.statics n value below sound.statics;
  roots = rw (length-set heap.statics n value) sound.roots;
}
stored-sound heap (Slot n i) value sound below = elim (cases_lt n (length heap.objects)) [
  | inl l ↦ (
      let object = with_slot (object_at heap n) i value in
      let size : length (slice_set heap.objects n object) ≡ length heap.objects = length-set heap.objects n object in
      let slots : All (IsBelow (length heap.objects)) object.values =
      All-set (IsBelow (length heap.objects)) (values_of heap n) i value below (sound.slots n no_object l) in
      let all : All (λ (o : Obj). All (IsBelow (length heap.objects)) o.values) (slice_set heap.objects n object) =
      All-set (λ (o : Obj). All (IsBelow (length heap.objects)) o.values) heap.objects n object slots sound.slots in
      record {
        few = rw size sound.few;
        shapes = All-set (λ (o : Obj). o.shape < length heap.shapes) heap.objects n object (sound.shapes n no_object l) sound.shapes;
        slots = subst (λ k. All (λ (o : Obj). All (IsBelow k) o.values) (slice_set heap.objects n object)) (sym size) all;
        statics = subst (λ k. All (IsBelow k) heap.statics) (sym size) sound.statics;
        roots = sound.roots;
      })
  | inr l ↦ subst (λ (objects : List Obj). IsSound (record heap { objects = objects }))
      (sym (set_past heap.objects n (with_slot (object_at heap n) i value) l)) sound
]

below_more : (n : ℕ) (v : Value) → IsBelow n v → IsBelow (n + 1) v
below_more n (Object m) h = omega (arith, h)
below_more n (Int i) h = tt
below_more n (Long i) h = tt
below_more n Null h = tt

default_below : (n : ℕ) (kind : Kind) → IsBelow n (default_of kind)
default_below n Z = tt
default_below n B = tt
default_below n C = tt
default_below n S = tt
default_below n I = tt
default_below n J = tt
default_below n L = tt
default_below n Text = tt

fresh_below : (n : ℕ) (shape : Shape) (count : ℕ) → All (IsBelow n) (fresh_values shape count)
fresh_below n shape count =
    elim shape.element as (λ element. All (IsBelow n) (elim element [
      | None ↦ map (λ (f : Field). default_of f.kind) shape.fields
      | Some kind ↦ replicate count (default_of kind)
    ])) [
      | None ↦ All-map (IsBelow n) (λ (f : Field). default_of f.kind) shape.fields (λ k d l. default_below n (slice_index_or shape.fields k d).kind)
      | Some kind ↦ All-replicate (IsBelow n) count (default_of kind) (default_below n kind)
    ]

pub with_fresh-sound : (heap : Heap) (shape count : ℕ) → IsSound heap → shape < length heap.shapes
    → length heap.objects < 2 ^ 32 - 1 → IsSound (with_fresh heap shape count)
with_fresh-sound heap shape count sound there room =
    let values = fresh_values (shape_at heap shape) count in
    let object : Obj = record { shape = shape; values = values } in
    let n = length heap.objects in
    let size : length (heap.objects ++ object ∷ []) ≡ n + 1 = length_push heap.objects object in
    let old : All (λ (o : Obj). All (IsBelow (n + 1)) o.values) heap.objects =
    All-weaker (λ (o : Obj). All (IsBelow n) o.values) (λ (o : Obj). All (IsBelow (n + 1)) o.values)
    (λ o h. All-weaker (IsBelow n) (IsBelow (n + 1)) (below_more n) o.values h) heap.objects sound.slots in
    let all : All (λ (o : Obj). All (IsBelow (n + 1)) o.values) (heap.objects ++ object ∷ []) =
    All-push (λ (o : Obj). All (IsBelow (n + 1)) o.values) heap.objects object old (fresh_below (n + 1) (shape_at heap shape) count) in
    let statics : All (IsBelow (n + 1)) heap.statics =
    All-weaker (IsBelow n) (IsBelow (n + 1)) (below_more n) heap.statics sound.statics in
    record {
      few = rw size (omega (arith, room));
      shapes = All-push (λ (o : Obj). o.shape < length heap.shapes) heap.objects object sound.shapes there;
      slots = subst (λ k. All (λ (o : Obj). All (IsBelow k) o.values) (heap.objects ++ object ∷ [])) (sym size) all;
      statics = subst (λ k. All (IsBelow k) heap.statics) (sym size) statics;
      roots = sound.roots;
    }
