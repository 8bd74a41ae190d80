-- Which acts fit a heap of a class set, and what one that doesn't leaves.
use Rattle.std.proofs.Common.{◌≡◌, ◌⊎◌, inl, inr, ℕ, suc, ◌<◌, ◌≤◌, ◌^◌, Bool, true, false, nat_eq, nat_lt, ◌&&◌, List, [], ◌∷◌}
use Rattle.std.proofs.Common.{length, refl, ap, subst, ◌∙◌, arith, if◌then◌else◌, length-append}
use Rattle.std.specs.Prelude.{◌≢◌, Option, Some, None}
use Rattle.std.proofs.lemmas.Bool.{true≢false, eqb-true, eqb-false, ltb-true, ltb-false, lt-ltb, and_parts, and_from, and_cases}
use Rattle.std.proofs.lemmas.Bool.{false_from_ne_true, true_from_ne_false}
use Rattle.std.proofs.lemmas.List.{length-map}
use Rattle.ap_base.specs.declared.kind.Kind.{Kind}
use Rattle.ap_base.specs.declared.place.Place.{Place}
use Rattle.ap_base.specs.declared.place.Place.TheVariants.{Static, Slot}
use Rattle.graph_model.specs.declared.types.Value.{Value}
use Rattle.graph_model.specs.declared.types.Value.TheVariants.{Int, Long, Null, Obj as Object}
use Rattle.graph_model.specs.declared.types.Shape.{Shape}
use Rattle.graph_model.specs.declared.types.Obj.{Obj}
use Rattle.graph_model.specs.declared.types.Heap.{Heap}
use Rattle.graph_model.specs.declared.types.Graph.{Graph}
use Rattle.graph_model.specs.Heaps.{HasPlace, IsBelow, shape_at, values_of, fresh_values}
use Rattle.run_history.specs.declared.act.Op.{Op}
use Rattle.run_history.specs.declared.act.Op.TheVariants as op
use Rattle.run_history.specs.Recorded.{Recorded}
use Rattle.run_history.specs.Worlds.{fits, has_place, is_below, is_next, may_have, heap_after_op, heap_after_op_checked}
use Rattle.plain_model.specs.Classes.{ClassFacts}
use Rattle.plain_model.specs.Facts.{SetFacts, classes_of, shapes_of}
use Rattle.plain_model.specs.First.{first_heap}
use Rattle.plain_model.proofs.RunSound.{shapes_stay}
use Rattle.live_heap.specs.Seen.{Seen, durable_after, is_durable_place, is_durable_store, seen_after, seen_from}
use Rattle.live_laws.specs.Firsts.{first_seen}
use Rattle.live_laws.specs.Strays.{IsStray, IsTakenIn, NoneHas}

-- ---- the set's shapes stay

shapes_after : (seen : Seen) (a : Recorded) → (seen_after seen a).heap.shapes ≡ seen.heap.shapes
unfolding seen_after
shapes_after seen a =
    elim (fits seen.heap a.act.op) as (λ b. (if b then heap_after_op seen.heap a.act.op else seen.heap).shapes ≡ seen.heap.shapes)
    [ true ↦ shapes_stay seen.heap a.act.op | false ↦ refl ]

shapes_from : (seen : Seen) (acts : List Recorded) → (seen_from seen acts).heap.shapes ≡ seen.heap.shapes
shapes_from seen [] = refl
shapes_from seen (a ∷ acts) = shapes_from (seen_after seen a) acts ∙ shapes_after seen a

pub shapes_of_seen : (set : SetFacts) (opening : Graph) (acts : List Recorded)
    → (seen_from (first_seen set opening) acts).heap.shapes ≡ shapes_of set
unfolding first_heap
shapes_of_seen set opening acts = shapes_from (first_seen set opening) acts

shape_count : (set : SetFacts) (heap : Heap) → heap.shapes ≡ shapes_of set → length heap.shapes ≡ length (classes_of set)
shape_count set heap same = ap length same ∙ length-map (classes_of set) (λ (c : ClassFacts). c.shape)

-- ---- tests and what they test

pub below_by_test : (n : ℕ) (value : Value) → is_below n value ≡ true → IsBelow n value
below_by_test n (Int i) e = tt
below_by_test n (Long i) e = tt
below_by_test n Null e = tt
below_by_test n (Object m) e = ltb-true m n e

not_below_by_test : (n : ℕ) (value : Value) → is_below n value ≡ false → IsBelow n value → ⊥
not_below_by_test n (Int i) e below = true≢false e
not_below_by_test n (Long i) e below = true≢false e
not_below_by_test n Null e below = true≢false e
not_below_by_test n (Object m) e below = let past = ltb-false m n e in absurd (omega (arith, past, below))

place_by_test : (heap : Heap) (place : Place) → has_place heap place ≡ true → HasPlace heap place
place_by_test heap (Static n) e = ltb-true n (length heap.statics) e
place_by_test heap (Slot n i) e =
    let tests = and_parts (nat_lt n (length heap.objects)) (nat_lt i (length (values_of heap n))) e in
    (ltb-true n (length heap.objects) tests.0, ltb-true i (length (values_of heap n)) tests.1)

past_slots : (heap : Heap) (n i : ℕ) → (nat_lt n (length heap.objects) ≡ false) ⊎ (nat_lt i (length (values_of heap n)) ≡ false)
    → HasPlace heap (Slot n i) → ⊥
past_slots heap n i (inl e) there =
    let past = ltb-false n (length heap.objects) e in let below = there.0 in absurd (omega (arith, past, below))
past_slots heap n i (inr e) there =
    let past = ltb-false i (length (values_of heap n)) e in let below = there.1 in absurd (omega (arith, past, below))

no_place_by_test : (heap : Heap) (place : Place) → has_place heap place ≡ false → HasPlace heap place → ⊥
no_place_by_test heap (Static n) e there =
    let past = ltb-false n (length heap.statics) e in absurd (omega (arith, past, there))
no_place_by_test heap (Slot n i) e there =
    past_slots heap n i (and_cases (nat_lt n (length heap.objects)) (nat_lt i (length (values_of heap n))) e) there

none_has : (shape : Shape) (count : ℕ) → NoneHas shape count → may_have shape count ≡ true → ⊥
none_has shape count none test =
    let same : nat_eq count (length shape.fields) ≡ true =
    subst (λ (e : Option Kind). (elim e [ None ↦ nat_eq count (length shape.fields) | Some kind ↦ true ]) ≡ true) none.0 test in
    none.1 (eqb-true count (length shape.fields) same)

none_has_by_test : (shape : Shape) (count : ℕ) → may_have shape count ≡ false → NoneHas shape count
none_has_by_test shape count test =
    elim shape.element as (λ (e : Option Kind). shape.element ≡ e
    → (elim e [ None ↦ nat_eq count (length shape.fields) | Some kind ↦ true ]) ≡ false → NoneHas shape count) [
      | None ↦ λ is other. (is, eqb-false count (length shape.fields) other)
      | Some kind ↦ λ is other. absurd (true≢false other)
    ] refl test

-- ---- strays don't fit, and all else does

record IsNext (set : SetFacts) (heap : Heap) (n shape : ℕ) : Type 0 where
  number : n ≡ length heap.objects
  there : shape < length (classes_of set)

next_by_test : (set : SetFacts) (heap : Heap) (n shape : ℕ) → heap.shapes ≡ shapes_of set → is_next heap n shape ≡ true
    → IsNext set heap n shape
next_by_test set heap n shape same test =
    let is_there = nat_lt shape (length heap.shapes) in
    let tests = and_parts (nat_eq n (length heap.objects) && nat_lt (suc n) (2 ^ 32)) is_there test in
    let numbers = and_parts (nat_eq n (length heap.objects)) (nat_lt (suc n) (2 ^ 32)) tests.0 in
    let below = ltb-true shape (length heap.shapes) tests.1 in
    record {
      number = eqb-true n (length heap.objects) numbers.0;
      there = omega (arith, below, shape_count set heap same);
    }

stray_alloc : (set : SetFacts) (heap : Heap) (n shape count : ℕ) → IsNext set heap n shape
    → may_have (shape_at heap shape) count ≡ true → IsStray set heap (op.Alloc n shape count) → ⊥
stray_alloc set heap n shape count next test (inl other) = other next.number
stray_alloc set heap n shape count next test (inr (inl past)) =
    let below = next.there in absurd (omega (arith, below, past))
stray_alloc set heap n shape count next test (inr (inr none)) = none_has (shape_at heap shape) count none test

stray_throw : (set : SetFacts) (heap : Heap) (n class : ℕ) → IsNext set heap n class → IsStray set heap (op.Throw n class) → ⊥
stray_throw set heap n class next (inl other) = other next.number
stray_throw set heap n class next (inr past) = let below = next.there in absurd (omega (arith, below, past))

stray_stored : (set : SetFacts) (heap : Heap) (place : Place) (value : Value) → HasPlace heap place
    → IsBelow (length heap.objects) value → IsStray set heap (op.Stored place value) → ⊥
stray_stored set heap place value there below (inl none) = none there
stray_stored set heap place value there below (inr none) = none below

no_stray_fits : (set : SetFacts) (heap : Heap) (o : Op) → heap.shapes ≡ shapes_of set → fits heap o ≡ true → IsStray set heap o → ⊥
no_stray_fits set heap (op.Alloc n shape count) same fit =
    let tests = and_parts (is_next heap n shape) (may_have (shape_at heap shape) count) fit in
    stray_alloc set heap n shape count (next_by_test set heap n shape same tests.0) tests.1
no_stray_fits set heap (op.Throw n class) same fit = stray_throw set heap n class (next_by_test set heap n class same fit)
no_stray_fits set heap (op.Stored place value) same fit =
    let tests = and_parts (has_place heap place) (is_below (length heap.objects) value) fit in
    stray_stored set heap place value (place_by_test heap place tests.0) (below_by_test (length heap.objects) value tests.1)
no_stray_fits set heap o same fit = λ stray. stray

-- a new object with the next number and a class of the set, of fewer than 2^32
is_next_from : (set : SetFacts) (heap : Heap) (n shape count : ℕ) → heap.shapes ≡ shapes_of set
    → length (heap_after_op heap (op.Alloc n shape count)).objects < 2 ^ 32 → (n ≢ length heap.objects → ⊥)
    → (length (classes_of set) ≤ shape → ⊥) → is_next heap n shape ≡ true
is_next_from set heap n shape count same few number there =
    let fresh : Obj = record { shape = shape; values = fresh_values (shape_at heap shape) count } in
    let longer = length-append heap.objects (fresh ∷ []) in
    let is : nat_eq n (length heap.objects) ≡ true =
    true_from_ne_false (nat_eq n (length heap.objects)) (λ e. number (eqb-false n (length heap.objects) e)) in
    let at : n ≡ length heap.objects = eqb-true n (length heap.objects) is in
    let room : nat_lt (suc n) (2 ^ 32) ≡ true = lt-ltb (suc n) (2 ^ 32) (omega (arith, few, longer, at)) in
    let class : nat_lt shape (length heap.shapes) ≡ true =
    true_from_ne_false (nat_lt shape (length heap.shapes)) (λ e.
    there (let past = ltb-false shape (length heap.shapes) e in omega (arith, past, shape_count set heap same))) in
    and_from (nat_eq n (length heap.objects) && nat_lt (suc n) (2 ^ 32)) (nat_lt shape (length heap.shapes))
    (and_from (nat_eq n (length heap.objects)) (nat_lt (suc n) (2 ^ 32)) is room) class

all_else_fits : (set : SetFacts) (heap : Heap) (o : Op) → heap.shapes ≡ shapes_of set
    → length (heap_after_op heap o).objects < 2 ^ 32 → (IsStray set heap o → ⊥) → fits heap o ≡ true
all_else_fits set heap (op.Alloc n shape count) same few sane =
    and_from (is_next heap n shape) (may_have (shape_at heap shape) count)
    (is_next_from set heap n shape count same few (λ other. sane (inl other)) (λ past. sane (inr (inl past))))
    (true_from_ne_false (may_have (shape_at heap shape) count)
    (λ e. sane (inr (inr (none_has_by_test (shape_at heap shape) count e)))))
all_else_fits set heap (op.Throw n class) same few sane =
    is_next_from set heap n class 0 same few (λ other. sane (inl other)) (λ past. sane (inr past))
all_else_fits set heap (op.Stored place value) same few sane =
    and_from (has_place heap place) (is_below (length heap.objects) value)
    (true_from_ne_false (has_place heap place) (λ e. sane (inl (no_place_by_test heap place e))))
    (true_from_ne_false (is_below (length heap.objects) value) (λ e. sane (inr (not_below_by_test (length heap.objects) value e))))
all_else_fits set heap o same few sane = refl

-- ---- what one that doesn't fit leaves

durable_misfit : (heap : Heap) (durable : List Bool) (named : List ℕ) (o : Op) → fits heap o ≡ false
    → durable_after heap durable named o ≡ durable
durable_misfit heap durable named (op.Alloc n shape count) misfit = rw misfit refl
durable_misfit heap durable named (op.Throw n class) misfit = rw misfit refl
durable_misfit heap durable named op.Joined misfit = absurd (true≢false misfit)
durable_misfit heap durable named o misfit = refl

store_misfit : (heap : Heap) (durable : List Bool) (o : Op) → fits heap o ≡ false → is_durable_store heap durable o ≡ false
store_misfit heap durable (op.Stored place value) misfit =
    ap (λ b. b && is_durable_place heap durable place) misfit
store_misfit heap durable o misfit = refl

misfit_counted : (seen : Seen) (a : Recorded) → fits seen.heap a.act.op ≡ false → seen_after seen a ≡ record seen { acts = suc seen.acts }
unfolding seen_after
misfit_counted seen a misfit =
    let o = a.act.op in
    let flags = durable_after seen.heap seen.durable a.named o in
    let stores : Bool → ℕ = λ b. if b then suc seen.stores else seen.stores in
    let is_store = is_durable_store seen.heap seen.durable o in
    let heap : heap_after_op_checked seen.heap o ≡ seen.heap =
    ap (λ b. if b then heap_after_op seen.heap o else seen.heap) misfit in
    ap (λ (h : Heap). record { heap = h; durable = flags; acts = suc seen.acts; stores = stores is_store }) heap
    ∙ ap (λ (d : List Bool). record { heap = seen.heap; durable = d; acts = suc seen.acts; stores = stores is_store })
    (durable_misfit seen.heap seen.durable a.named o misfit)
    ∙ ap (λ (b : Bool). record { heap = seen.heap; durable = seen.durable; acts = suc seen.acts; stores = stores b })
    (store_misfit seen.heap seen.durable o misfit)

pub fit_done : (seen : Seen) (a : Recorded) → fits seen.heap a.act.op ≡ true → (seen_after seen a).heap ≡ heap_after_op seen.heap a.act.op
unfolding seen_after
fit_done seen a fit = ap (λ b. if b then heap_after_op seen.heap a.act.op else seen.heap) fit

pub taken_in : (set : SetFacts) (seen : Seen) (a : Recorded) → seen.heap.shapes ≡ shapes_of set → IsTakenIn set seen a
taken_in set seen a same = record {
  shapes = same;
  stray = λ stray. misfit_counted seen a
      (false_from_ne_true (fits seen.heap a.act.op) (λ fit. no_stray_fits set seen.heap a.act.op same fit stray));
  done = λ sane few. fit_done seen a (all_else_fits set seen.heap a.act.op same few sane);
}
