-- Heaps of the same sizes, and what an operation does to a place of them.
use Rattle.std.proofs.Common.{◌≡◌, inl, inr, ℕ, ◌+◌, ◌-◌, ◌<◌, ◌≤◌, true, false, ◌&&◌, List, [], ◌∷◌, length, slice_index_or}
use Rattle.std.proofs.Common.{slice_set, refl, sym, ◌∙◌, ap, arith, nat_lt, if◌then◌else◌}
use Rattle.std.proofs.lemmas.Bool.{cases_lt, cases_eq, cases_Bool, lt-ltb, le-ltb, true≢false}
use Rattle.std.proofs.lemmas.List.{get_or-set_same, get_or-set_other, length-set, length_push, set_past, get_or_append_left}
use Rattle.std.proofs.lemmas.List.{get_or-append_right, set-get_or}
use Rattle.ap_base.specs.declared.place.Place.{Place}
use Rattle.ap_base.specs.declared.place.Place.TheVariants.{Static, Slot}
use Rattle.graph_model.specs.declared.types.Value.{Value}
use Rattle.graph_model.specs.declared.types.Value.TheVariants.{Null}
use Rattle.graph_model.specs.declared.types.Obj.{Obj}
use Rattle.graph_model.specs.declared.types.Shape.{Shape}
use Rattle.graph_model.specs.declared.types.Heap.{Heap}
use Rattle.graph_model.specs.Heaps.{no_object, object_at, shape_at, values_of, with_slot, stored, with_fresh, fresh_values}
use Rattle.graph_model.specs.Heaps.{value_at, place_is, HasPlace}
use Rattle.graph_model.proofs.Stores.{value_at-stored}
use Rattle.run_history.specs.declared.act.Op.{Op}
use Rattle.run_history.specs.declared.act.Op.TheVariants as op
use Rattle.run_history.specs.Worlds.{heap_after_op, has_place}
use Rattle.run_history.specs.Sizes.{SameSizes}

pub sizes_refl : (h : Heap) → SameSizes h h
sizes_refl h = record { shapes = refl; roots = refl; statics = refl; objects = refl; shape = λ n. refl; slots = λ n. refl }

pub sizes_sym : {h k : Heap} → SameSizes h k → SameSizes k h
sizes_sym s = record { shapes = sym s.shapes; roots = sym s.roots; statics = sym s.statics; objects = sym s.objects; shape = λ n. sym (s.shape n); slots = λ n. sym (s.slots n) }

pub sizes_trans : {h k l : Heap} → SameSizes h k → SameSizes k l → SameSizes h l
sizes_trans s t = record {
  shapes = t.shapes ∙ s.shapes;
  roots = t.roots ∙ s.roots;
  statics = t.statics ∙ s.statics;
  objects = t.objects ∙ s.objects;
  shape = λ n. t.shape n ∙ s.shape n;
  slots = λ n. t.slots n ∙ s.slots n;
}

-- a store changes no size
object_stored : (h : Heap) (n i m : ℕ) (x : Value)
    → ((object_at (stored h (Slot n i) x) m).shape ≡ (object_at h m).shape)
    × (length (values_of (stored h (Slot n i) x) m) ≡ length (values_of h m))
object_stored h n i m x = elim (cases_lt n (length h.objects)) [
  | inr past ↦ (
      let same = set_past h.objects n (with_slot (object_at h n) i x) past in
      (ap (λ (os : List Obj). (slice_index_or os m no_object).shape) same, ap (λ (os : List Obj). length (slice_index_or os m no_object).values) same))
  | inl below ↦ elim (cases_eq m n) [
    | inl e ↦ rw e (
        let here = get_or-set_same h.objects n (with_slot (object_at h n) i x) no_object below in
        (ap (λ (o : Obj). o.shape) here, ap (λ (o : Obj). length o.values) here ∙ length-set (values_of h n) i x))
    | inr ne ↦ (
        let there = get_or-set_other h.objects n m (with_slot (object_at h n) i x) no_object ne in
        (ap (λ (o : Obj). o.shape) there, ap (λ (o : Obj). length o.values) there))
  ]
]

pub stored-sizes : (h : Heap) (p : Place) (x : Value) → SameSizes h (stored h p x)
stored-sizes h (Static s) x = record { shapes = refl; roots = refl; statics = length-set h.statics s x; objects = refl; shape = λ n. refl; slots = λ n. refl }
stored-sizes h (Slot n i) x = record {
  shapes = refl;
  roots = refl;
  statics = refl;
  objects = length-set h.objects n (with_slot (object_at h n) i x);
  shape = λ m. (object_stored h n i m x).0;
  slots = λ m. (object_stored h n i m x).1;
}

-- ---- new objects

pub fresh_low : (h : Heap) (shape count m : ℕ) → m < length h.objects
    → object_at (with_fresh h shape count) m ≡ object_at h m
fresh_low h shape count m below = get_or_append_left h.objects (record { shape = shape; values = fresh_values (shape_at h shape) count } ∷ []) no_object m below

fresh_high : (h k : Heap) (shape count m : ℕ) → SameSizes h k → length h.objects ≤ m
    → object_at (with_fresh k shape count) m ≡ object_at (with_fresh h shape count) m
fresh_high h k shape count m s past =
    let n = length h.objects in
    let new : Heap → Obj = λ l. record { shape = shape; values = fresh_values (shape_at l shape) count } in
    let same : new k ≡ new h = ap (λ (shapes : List Shape). record { shape = shape; values = fresh_values (shape_at (record k { shapes = shapes }) shape) count }) s.shapes in
    get_or-append_right k.objects (new k ∷ []) n m no_object s.objects past
    ∙ ap (λ (o : Obj). slice_index_or (o ∷ []) (m - n) no_object) same
    ∙ sym (get_or-append_right h.objects (new h ∷ []) n m no_object refl past)

pub fresh-sizes : (h k : Heap) (shape count : ℕ) → SameSizes h k → SameSizes (with_fresh h shape count)
    (with_fresh k shape count)
fresh-sizes h k shape count s = record {
  shapes = s.shapes;
  roots = s.roots;
  statics = s.statics;
  objects = length_push k.objects (record { shape = shape; values = fresh_values (shape_at k shape) count }) ∙ ap (λ n. n + 1) s.objects
      ∙ sym (length_push h.objects (record { shape = shape; values = fresh_values (shape_at h shape) count }));
  shape = λ m. elim (cases_lt m (length h.objects)) [
    | inl below ↦ ap (λ (o : Obj). o.shape) (fresh_low k shape count m (omega (arith, below, s.objects))) ∙ s.shape m ∙ sym (ap (λ (o : Obj). o.shape) (fresh_low h shape count m below))
    | inr past ↦ ap (λ (o : Obj). o.shape) (fresh_high h k shape count m s past)
  ];
  slots = λ m. elim (cases_lt m (length h.objects)) [
    | inl below ↦ ap (λ (o : Obj). length o.values) (fresh_low k shape count m (omega (arith, below, s.objects))) ∙ s.slots
        m ∙ sym (ap (λ (o : Obj). length o.values) (fresh_low h shape count m below))
    | inr past ↦ ap (λ (o : Obj). length o.values) (fresh_high h k shape count m s past)
  ];
}

-- ---- a place

pub record SameAt (p : Place) (h k : Heap) : Type 0 where
  pub sizes : SameSizes h k
  pub value : value_at k p ≡ value_at h p

pub same_refl : (p : Place) (h : Heap) → SameAt p h h
same_refl p h = record { sizes = sizes_refl h; value = refl }

pub same_sym : {p : Place} {h k : Heap} → SameAt p h k → SameAt p k h
same_sym s = record { sizes = sizes_sym s.sizes; value = sym s.value }

pub same_trans : {p : Place} {h k l : Heap} → SameAt p h k → SameAt p k l → SameAt p h l
same_trans s t = record { sizes = sizes_trans s.sizes t.sizes; value = t.value ∙ s.value }

fresh_value : (p : Place) (h k : Heap) (shape count : ℕ) → SameAt p h k
    → value_at (with_fresh k shape count) p ≡ value_at (with_fresh h shape count) p
fresh_value (Static n) h k shape count s = s.value
fresh_value (Slot m j) h k shape count s = elim (cases_lt m (length h.objects)) [
  | inl below ↦ ap (λ (o : Obj). slice_index_or o.values j Null)
      (fresh_low k shape count m (omega (arith, below, s.sizes.objects))) ∙ s.value ∙ sym
      (ap (λ (o : Obj). slice_index_or o.values j Null) (fresh_low h shape count m below))
  | inr past ↦ ap (λ (o : Obj). slice_index_or o.values j Null) (fresh_high h k shape count m s.sizes past)
]

-- a store where there is no such place changes nothing
not_there : (h : Heap) (q p : Place) (x : Value) → has_place h q ≡ false
    → value_at (stored h q x) p ≡ value_at h p
not_there h (Static n) (Slot m j) x none = refl
not_there h (Slot n i) (Static m) x none = refl
not_there h (Static n) (Static m) x none = elim (cases_lt n (length h.statics)) [
  | inl below ↦ absurd (true≢false (sym (lt-ltb n (length h.statics) below) ∙ none))
  | inr past ↦ ap (λ (vs : List Value). slice_index_or vs m Null) (set_past h.statics n x past)
]
not_there h (Slot n i) (Slot m j) x none = elim (cases_lt n (length h.objects)) [
  | inr past ↦ ap (λ (os : List Obj). slice_index_or (slice_index_or os m no_object).values j Null) (set_past h.objects n (with_slot (object_at h n) i x) past)
  | inl below ↦ elim (cases_lt i (length (values_of h n))) [
    | inl inside ↦ absurd (true≢false
        (sym (let both : (nat_lt n (length h.objects) && nat_lt i (length (values_of h n))) ≡ true = rw
        (lt-ltb n (length h.objects) below, lt-ltb i (length (values_of h n)) inside) refl in both) ∙ none))
    | inr past ↦ (
        let same : with_slot (object_at h n) i x ≡ object_at h n = ap (λ (vs : List Value). record { shape = (object_at h n).shape; values = vs }) (set_past (values_of h n) i x past) in
        ap (λ (o : Obj). slice_index_or (slice_index_or (slice_set h.objects n o) m no_object).values j Null) same
        ∙ ap (λ (os : List Obj). slice_index_or (slice_index_or os m no_object).values j Null) (set-get_or h.objects n no_object))
  ]
]

pub there : (h : Heap) (q : Place) → has_place h q ≡ true → HasPlace h q
there h (Static n) is = elim (cases_lt n (length h.statics)) [
  | inl below ↦ below
  | inr past ↦ absurd (true≢false (sym is ∙ le-ltb n (length h.statics) past))
]
there h (Slot n i) is = elim (cases_lt n (length h.objects)) [
  | inr past ↦ absurd (true≢false (sym is ∙ (let none : (nat_lt n (length h.objects) && nat_lt i (length (values_of h n))) ≡ false = rw (le-ltb n (length h.objects) past) refl in none)))
  | inl below ↦ elim (cases_lt i (length (values_of h n))) [
    | inl inside ↦ (below, inside)
    | inr past ↦ absurd (true≢false
        (sym is ∙ (let none : (nat_lt n (length h.objects) && nat_lt i (length (values_of h n))) ≡ false = rw
        (lt-ltb n (length h.objects) below, le-ltb i (length (values_of h n)) past) refl in none)))
  ]
]

pub value_stored : (h : Heap) (q p : Place) (x : Value)
    → value_at (stored h q x) p ≡ (if place_is q p && has_place h q then x else value_at h p)
value_stored h q p x = elim (cases_Bool (has_place h q)) [
  | inl is ↦ rw is (value_at-stored h q p x (there h q is) ∙ (elim (place_is q p) as (λ b. (if b then x else value_at h p) ≡ (if b && true then x else value_at h p)) [ true ↦ refl | false ↦ refl ]))
  | inr none ↦ rw none (not_there h q p x none ∙ (elim (place_is q p) as (λ b. value_at h p ≡ (if b && false then x else value_at h p)) [ true ↦ refl | false ↦ refl ]))
]

pub same_has : (h k : Heap) (q : Place) → SameSizes h k → has_place k q ≡ has_place h q
same_has h k (Static n) s = rw s.statics refl
same_has h k (Slot n i) s = rw (s.objects, s.slots n) refl

stored_value : (p q : Place) (h k : Heap) (x : Value) → SameAt p h k
    → value_at (stored k q x) p ≡ value_at (stored h q x) p
stored_value p q h k x s =
    value_stored k q p x ∙ (let same : (if place_is q p && has_place k q then x else value_at k p) ≡
    (if place_is q p && has_place h q then x else value_at h p) = rw (same_has h k q s.sizes, s.value) refl in same)
    ∙ sym (value_stored h q p x)

-- an operation done in both heaps
pub same_op : (p : Place) (o : Op) (h k : Heap) → SameAt p h k → SameAt p (heap_after_op h o)
    (heap_after_op k o)
same_op p (op.Alloc n shape count) h k s = record { sizes = fresh-sizes h k shape count s.sizes; value = fresh_value p h k shape count s }
same_op p (op.Throw n class) h k s = record { sizes = fresh-sizes h k class 0 s.sizes; value = fresh_value p h k class 0 s }
same_op p (op.Stored q x) h k s = record {
  sizes = sizes_trans (sizes_sym (stored-sizes h q x)) (sizes_trans s.sizes (stored-sizes k q x));
  value = stored_value p q h k x s;
}
same_op p o h k s = s

-- a store elsewhere
pub same_elsewhere : (p q : Place) (h : Heap) (x : Value) → place_is q p ≡ false → SameAt p h (stored h q x)
same_elsewhere p q h x other = record { sizes = stored-sizes h q x; value = value_stored h q p x ∙ rw other refl }

pub sizes_op : (o : Op) (h k : Heap) → SameSizes h k → SameSizes (heap_after_op h o) (heap_after_op k o)
sizes_op (op.Alloc n shape count) h k s = fresh-sizes h k shape count s
sizes_op (op.Throw n class) h k s = fresh-sizes h k class 0 s
sizes_op (op.Stored q x) h k s = sizes_trans (sizes_sym (stored-sizes h q x)) (sizes_trans s (stored-sizes k q x))
sizes_op o h k s = s

-- a place that the heap has keeps its value where the operation isn't a store there, and is still there
pub value_fresh : (p : Place) (h : Heap) (shape count : ℕ) → has_place h p ≡ true
    → value_at (with_fresh h shape count) p ≡ value_at h p
value_fresh (Static n) h shape count is = refl
value_fresh (Slot m j) h shape count is = ap (λ (o : Obj). slice_index_or o.values j Null) (fresh_low h shape count m (there h (Slot m j) is).0)

pub has_fresh : (p : Place) (h : Heap) (shape count : ℕ) → has_place h p ≡ true
    → has_place (with_fresh h shape count) p ≡ true
has_fresh (Static n) h shape count is = is
has_fresh (Slot m j) h shape count is =
    let both = there h (Slot m j) is in
    let more = length_push h.objects (record { shape = shape; values = fresh_values (shape_at h shape) count }) in
    let low : length (values_of (with_fresh h shape count) m) ≡ length (values_of h m) = ap (λ (o : Obj). length o.values) (fresh_low h shape count m both.0) in
    rw (lt-ltb m (length (with_fresh h shape count).objects) (omega (arith, both.0, more)), low, lt-ltb j (length (values_of h m)) both.1) refl
