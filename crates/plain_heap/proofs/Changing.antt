-- What changes leave, and what it is to take them back.
use Rattle.std.proofs.Common.{◌≡◌, ℕ, ◌+◌, ◌-◌, ◌<◌, ◌^◌, Bool, true, false, nat_lt, ◌&&◌, List, [], ◌∷◌, ◌++◌, length, map}
use Rattle.std.proofs.Common.{replicate, take, set, get_or, Option, Some, None, IsTrue, refl, ap, sym, subst, ◌∙◌, arith, rules}
use Rattle.std.proofs.Common.{if◌then◌else◌, length-append}
use Rattle.std.specs.Prelude.{All, slice_set, nat_eq}
use Rattle.std.proofs.lemmas.List.{length-set, length-map, length-replicate, get_or_default, get_or-set_same, set-set}
use Rattle.std.proofs.lemmas.List.{set-get_or, take_at}
use Rattle.std.proofs.lemmas.List.Elements.{All-set, All-map, All-push, All-replicate, All-weaker, All-get_or}
use Rattle.ap_base.specs.declared.kind.Kind.{Kind}
use Rattle.ap_base.specs.declared.kind.Kind.TheVariants.{Z, B, C, S, I, J, L, Text}
use Rattle.ap_base.specs.declared.reference.Ref.{Ref}
use Rattle.ap_base.specs.declared.reference.Ref.TheVariants.{Volatile}
use Rattle.ap_base.specs.declared.reference.Item.{Item}
use Rattle.graph_model.specs.declared.types.Value.{Value}
use Rattle.graph_model.specs.declared.types.Value.TheVariants.{Int, Long, Null, Obj as Object}
use Rattle.graph_model.specs.declared.types.Obj.{Obj}
use Rattle.graph_model.specs.declared.types.Field.{Field}
use Rattle.graph_model.specs.declared.types.Shape.{Shape}
use Rattle.graph_model.specs.Heaps.{default_of, fresh_values, no_object, no_shape, with_slot}
use Rattle.run_history.specs.Worlds.{is_below, may_have}
use Rattle.shared_objects.specs.Shown.{IfNumber, item_value, object_in}
use Rattle.shared_objects.specs.Changes.{StoresSlot, StoresStatic}
use Rattle.plain_heap.specs.declared.change.Change.TheVariants as change
use Rattle.plain_heap.specs.Backs.{is_placed, objects_before, shown_before}
use Rattle.plain_heap.specs.Laws.{number_is}
use Rattle.plain_heap.specs.Shows.{number_in, shown_with}
use Rattle.plain_heap.specs.Sound.{IsSoundHeap, IsSoundObject}

no-true : {P : Type 0} → true ≡ false → P
no-true e = absurd (let no : true ≡ false = e in cc)

-- ---- static fields

pub static-stored : (shapes : List Shape) (os : List Obj) (ss : List Value) (left f : ℕ) (item : Item) (v :
    Value)
    → v ≡ item_value (number_in (length os)) item
    → StoresStatic f item (shown_with shapes os ss left) (shown_with shapes os (slice_set ss f v) left)
static-stored shapes os ss left f item v e = record {
  goes_on = record { shapes = refl; keeps = λ r n is. is; keys = λ r is. is };
  objects = refl;
  statics = ap (slice_set ss f) e;
  left = refl;
}

pub static-back : (shapes : List Shape) (os : List Obj) (ss : List Value) (left f : ℕ) (v before : Value)
    → before ≡ get_or ss f before
    → shown_with shapes os (slice_set (slice_set ss f v) f before) left ≡ shown_with shapes os ss left
static-back shapes os ss left f v before e = ap (λ (xs : List Value). shown_with shapes os xs left)
    (set-set ss f v before ∙ ap (set ss f) e ∙ set-get_or ss f before)

-- ---- references that have numbers

if-test : (n : ℕ) (P : ℕ → Type 0) (b : Bool) → IfNumber (if b then Some n else None) P → (b ≡ true) × P n
if-test n P true h = (refl, h)
if-test n P false h = absurd h

pub there : (count n : ℕ) (P : ℕ → Type 0) → IfNumber (number_in count (Volatile n)) P → (n < count) × P n
there count n P h =
    let both = if-test n P (nat_lt n count) h in
    let test : nat_lt n count ≡ true = both.0 in
    (search (rules, test), both.1)

-- the slot of a reference that has it
pub slot-place : (shapes : List Shape) (os : List Obj) (ss : List Value) (left : ℕ) (r : Ref) (n i : ℕ) (o
    : Obj)
    → r ≡ Volatile n
    → IfNumber (number_in (length os) r) (λ m. i < length (object_in (shown_with shapes os ss left) m).values)
    → o ≡ get_or os n o → (n < length os) × (i < length o.values)
slot-place shapes os ss left r n i o e h is =
    let both = there (length os) n (λ m. i < length (get_or os m no_object).values)
    (subst (λ (q : Ref). IfNumber (number_in (length os) q) (λ m. i < length (get_or os m
    no_object).values)) e h) in (
      both.0,
      subst (λ (x : Obj). i < length x.values) (sym (is ∙ get_or_default os n o no_object both.0)) both.1,
    )

-- it is the same object each time
pub slot-was : (os : List Obj) (n i : ℕ) (a o : Obj) (before : Value) → n < length os → a ≡ get_or os n a
    → o ≡ get_or os n o → before ≡ get_or a.values i Null → before ≡ get_or o.values i Null
slot-was os n i a o before below first is was =
    was ∙ ap (λ (x : Obj). get_or x.values i Null) (first ∙ get_or_default os n a o below ∙ sym is)

-- ---- slots

module _ (shapes : List Shape) (os : List Obj) (ss : List Value) (n i : ℕ) (o : Obj) (v before : Value)
    (below : n < length os) (is : o ≡ get_or os n o) (inside : i < length o.values)
    (was : before ≡ get_or o.values i Null) where
  abbrev changed : List Obj
  changed = slice_set os n (with_slot o i v)

  is-own : o ≡ get_or os n no_object
  is-own = is ∙ get_or_default os n o no_object below

  abbrev object_with : List Value → Obj
  object_with vs = record o { values = vs }

  -- the object itself is restored
  restored : with_slot (with_slot o i v) i before ≡ o
  restored = ap object_with (set-set o.values i v before ∙ ap (set o.values i) was
      ∙ set-get_or o.values i Null)

  same-there : get_or changed n no_object ≡ with_slot o i v
  same-there = get_or-set_same os n (with_slot o i v) no_object below

  pub objects-back : objects_before (change.Slot n i before) changed ≡ os
  objects-back =
      ap (λ (x : Obj). set changed n (with_slot x i before)) same-there
      ∙ ap (λ (x : Obj). set changed n x) restored
      ∙ set-set os n (with_slot o i v) o
      ∙ ap (λ (x : Obj). set os n x) is
      ∙ set-get_or os n o

  counted : length changed ≡ length os
  counted = length-set os n (with_slot o i v)

  pub slot-placed : is_placed (change.Slot n i before) changed ss ≡ true
  slot-placed =
      let low : n < length changed = omega (arith, counted, below) in
      let high : i < length (slice_set o.values i v) = omega (arith, length-set o.values i v, inside) in
      let first : nat_lt n (length changed) ≡ true = search (rules, low) in
      let second : nat_lt i (length (slice_set o.values i v)) ≡ true = search (rules, high) in
      ap (λ (b : Bool). b && nat_lt i (length (get_or changed n no_object).values)) first
      ∙ ap (λ (x : Obj). nat_lt i (length x.values)) same-there
      ∙ second

  pub slot-sound : is_below (length os) v ≡ true → IsSoundHeap shapes os ss → IsSoundHeap shapes changed ss
  slot-sound fits h =
      let own : IsSoundObject shapes (length os) o =
      subst (IsSoundObject shapes (length os)) (sym is-own)
      (All-get_or (IsSoundObject shapes (length os)) os n no_object below h.objects_sound) in
      let now : IsSoundObject shapes (length os) (with_slot o i v) = record {
        shape = own.shape;
        few = omega (arith, length-set o.values i v, own.few);
        below = All-set (λ (x : Value). is_below (length os) x ≡ true) o.values i v fits own.below;
      } in
      record {
        objects_sound = subst (λ (k : ℕ). All (IsSoundObject shapes k) changed) (sym counted)
            (All-set (IsSoundObject shapes (length os)) os n (with_slot o i v) now h.objects_sound);
        statics_below = subst (λ (k : ℕ). All (λ (x : Value). is_below k x ≡ true) ss) (sym counted)
            h.statics_below;
        few = omega (arith, counted, h.few);
      }

  pub slot-back : (left : ℕ)
      → shown_before (change.Slot n i before) shapes changed ss left ≡ shown_with shapes os ss left
  slot-back left = ap (λ (xs : List Obj). shown_with shapes xs ss left) objects-back

  pub slot-stored : (left : ℕ) (r : Ref) (item : Item) → r ≡ Volatile n
      → v ≡ item_value (number_in (length os)) item
      → StoresSlot r i item (shown_with shapes os ss left) (shown_with shapes changed ss left)
  slot-stored left r item e same = record {
    goes_on = record {
      shapes = refl;
      keeps = λ q m at. subst (λ (k : ℕ). number_in k q ≡ Some m) (sym counted) at;
      keys = λ q at. at;
    };
    objects = λ m at.
        let numbered : n ≡ m = (number_is (length os) n m (subst (λ (q : Ref). number_in (length os) q
        ≡ Some m)
        e at)).0 in
        ap (λ (x : Obj). set os n (with_slot x i v)) is-own
        ∙ ap (λ (x : Value). set os n (with_slot (get_or os n no_object) i x)) same
        ∙ ap (λ (k : ℕ). set os k (with_slot (get_or os k no_object) i
        (item_value (number_in (length os)) item))) numbered;
    statics = refl;
    left = refl;
  }

-- ---- new objects

below-more : (k : ℕ) (v : Value) → is_below k v ≡ true → is_below (k + 1) v ≡ true
below-more k (Int i) e = refl
below-more k (Long i) e = refl
below-more k Null e = refl
below-more k (Object m) e =
    let low : m < k = search (rules, e) in
    let high : m < k + 1 = omega (arith, low) in
    search (rules, high)

more-sound : (shapes : List Shape) (k : ℕ) (o : Obj) → IsSoundObject shapes k o
    → IsSoundObject shapes (k + 1) o
more-sound shapes k o h = record {
  shape = h.shape;
  few = h.few;
  below = All-weaker (λ (v : Value). is_below k v ≡ true) (λ (v : Value). is_below (k + 1) v ≡ true)
      (below-more k) o.values h.below;
}

default-below : (k : ℕ) (kind : Kind) → is_below k (default_of kind) ≡ true
default-below k Z = refl
default-below k B = refl
default-below k C = refl
default-below k S = refl
default-below k I = refl
default-below k J = refl
default-below k L = refl
default-below k Text = refl

fresh-of : (k slots : ℕ) (shape : Shape) (element : Option Kind) → shape.element ≡ element
    → IsTrue (may_have shape slots)
    → (length (fresh_values shape slots) ≡ slots) × All (λ (v : Value). is_below k v ≡ true)
    (fresh_values shape slots)
fresh-of k slots shape None e may =
    let fields : fresh_values shape slots ≡ map (λ (f : Field). default_of f.kind) shape.fields =
    ap (λ (o : Option Kind). elim o [
      | None ↦ map (λ (f : Field). default_of f.kind) shape.fields
      | Some kind ↦ replicate slots (default_of kind)
    ]) e in
    let test : nat_eq slots (length shape.fields) ≡ true =
    sym (ap (λ (o : Option Kind). elim o [ None ↦ nat_eq slots (length shape.fields) | Some kind ↦ true ]) e)
    ∙ may in
    let count : slots ≡ length shape.fields = search (rules, test) in (
      ap length fields ∙ length-map shape.fields (λ (f : Field). default_of f.kind) ∙ sym count,
      subst (All (λ (v : Value). is_below k v ≡ true)) (sym fields)
          (All-map (λ (v : Value). is_below k v ≡ true) (λ (f : Field). default_of f.kind) shape.fields
          (λ n d low. default-below k (get_or shape.fields n d).kind)),
    )
fresh-of k slots shape (Some kind) e may =
    let elements : fresh_values shape slots ≡ replicate slots (default_of kind) =
    ap (λ (o : Option Kind). elim o [
      | None ↦ map (λ (f : Field). default_of f.kind) shape.fields
      | Some kind ↦ replicate slots (default_of kind)
    ]) e in (
      ap length elements ∙ length-replicate slots (default_of kind),
      subst (All (λ (v : Value). is_below k v ≡ true)) (sym elements)
          (All-replicate (λ (v : Value). is_below k v ≡ true) slots (default_of kind) (default-below k kind)),
    )

pub made-sound : (shapes : List Shape) (os now : List Obj) (ss : List Value) (class slots : ℕ) (shape : Shape)
    (values : List Value) → IsSoundHeap shapes os ss → now ≡ os ++ record {
      shape = class;
      values = values;
    } ∷ []
    → values ≡ fresh_values shape slots → IsTrue (may_have shape slots) → class < length shapes
    → slots < 2 ^ 31 → length os + 1 < 2 ^ 32 → IsSoundHeap shapes now ss
made-sound shapes os now ss class slots shape values h is fresh may there few room =
    let made = fresh-of (length os + 1) slots shape shape.element refl may in
    let counted : length now ≡ length os + 1 = ap length is
    ∙ length-append os (record { shape = class; values = values } ∷ []) in
    let own : IsSoundObject shapes (length os + 1) (record { shape = class; values = values }) = record {
      shape = there;
      few = omega (arith, ap length fresh, made.0, few);
      below = subst (All (λ (v : Value). is_below (length os + 1) v ≡ true)) (sym fresh) made.1;
    } in
    let all : All (IsSoundObject shapes (length os + 1)) now =
    subst (All (IsSoundObject shapes (length os + 1))) (sym is)
    (All-push (IsSoundObject shapes (length os + 1)) os (record { shape = class; values = values })
    (All-weaker (IsSoundObject shapes (length os)) (IsSoundObject shapes (length os + 1))
    (more-sound shapes (length os)) os h.objects_sound) own) in
    record {
      objects_sound = subst (λ (k : ℕ). All (IsSoundObject shapes k) now) (sym counted) all;
      statics_below = subst (λ (k : ℕ). All (λ (v : Value). is_below k v ≡ true) ss) (sym counted)
          (All-weaker (λ (v : Value). is_below (length os) v ≡ true)
          (λ (v : Value). is_below (length os + 1) v ≡ true) (below-more (length os)) ss h.statics_below);
      few = omega (arith, counted, room);
    }

pub made-back : (os now : List Obj) (o : Obj) → now ≡ os ++ o ∷ [] → take (length now - 1) now ≡ os
made-back os now o is =
    let counted : length now ≡ length os + 1 = ap length is ∙ length-append os (o ∷ []) in
    let front : length os ≡ length now - 1 = omega (arith, counted) in
    ap (take (length now - 1)) is ∙ take_at os (o ∷ []) (length now - 1) front

pub made-pushed : (os : List Obj) (o : Obj) (class : ℕ) (values : List Value)
    → o ≡ record { shape = class; values = values }
    → os ++ o ∷ [] ≡ os ++ record { shape = class; values = values } ∷ []
made-pushed os o class values e = ap (λ (x : Obj). os ++ x ∷ []) e

pub shape-there : (shapes given : List Shape) (class : ℕ) (shape : Shape) → class < length shapes
    → given ≡ shapes → shape ≡ get_or given class shape → shape ≡ get_or shapes class no_shape
shape-there shapes given class shape below same is =
    is ∙ ap (λ (xs : List Shape). get_or xs class shape) same
    ∙ get_or_default shapes class shape no_shape below
