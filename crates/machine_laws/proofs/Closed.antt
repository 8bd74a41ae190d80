-- What durable places refer to is durable, after one more act.
use Rattle.std.proofs.Common.{◌≡◌, ◌≢◌, ◌⊎◌, inl, inr, ℕ, ◌<◌, Bool, true, false, not, ◌||◌, nat_eq, List, [], ◌∷◌, ◌++◌}
use Rattle.std.proofs.Common.{length, Some, refl, sym, ◌∙◌, ap, subst, arith, get_or, set, eqb-true, eq-eqb}
use Rattle.std.specs.Prelude.{Contains, slice_get, slice_set}
use Rattle.std.proofs.Math.ListN.{get_or-eq_default}
use Rattle.std.proofs.lemmas.Bool.{false≢true, true≢false, cases_lt}
use Rattle.std.proofs.lemmas.List.{get_or-set_same, get_or-set_other, length-set, get_or_append_left}
use Rattle.std.proofs.lemmas.Option.{slice_get-get_or, slice_get_within, get_or_from_slice_get}
use Rattle.ap_base.specs.declared.place.Place.TheVariants.{Static, Slot}
use Rattle.graph_model.specs.declared.types.Value.{Value}
use Rattle.graph_model.specs.declared.types.Value.TheVariants.{Null, Obj as Object}
use Rattle.graph_model.specs.declared.types.Obj.{Obj}
use Rattle.graph_model.specs.declared.types.Heap.{Heap}
use Rattle.graph_model.specs.Heaps.{has_number, no_object, object_at, values_of, with_slot, with_fresh, stored}
use Rattle.graph_model.specs.Reach.{Refers}
use Rattle.run_history.specs.Knowing.{Knowledge, is_durable, is_root}
use Rattle.run_history.specs.Wanted.{IsClosed}
use Rattle.plain_model.specs.Runs.{is_volatile}
use Rattle.plain_model.proofs.Durable.{has_number-append_left, has_number-append_cases}

-- the same of a heap and of a list of durable objects alone
pub record AreClosed (heap : Heap) (durable : List ℕ) : Type 0 where
  pub objects : (m n : ℕ) → has_number durable m ≡ true → Refers heap m n → has_number durable n ≡ true
  pub roots : (k n : ℕ) → is_root heap.roots k ≡ true → slice_get heap.statics k ≡ Some (Object n)
      → has_number durable n ≡ true

pub of_known : (known : Knowledge) → IsClosed known → AreClosed known.world.heap known.durable
of_known known c = record { objects = c.objects; roots = c.roots }

pub is_closed_by : (known : Knowledge) (heap : Heap) (durable : List ℕ) → known.world.heap ≡ heap
    → known.durable ≡ durable → AreClosed heap durable → IsClosed known
is_closed_by known heap durable is_heap is_durable c =
    let whole : AreClosed known.world.heap known.durable =
    subst (λ h. AreClosed h known.durable) (sym is_heap) (subst (AreClosed heap) (sym is_durable) c) in
    record { objects = whole.objects; roots = whole.roots }

-- ---- lists of numbers

or_true : (b : Bool) → (b || true) ≡ true
or_true true = refl
or_true false = refl

pub has_number-append_right : (xs ys : List ℕ) (n : ℕ) → has_number ys n ≡ true → has_number (xs ++ ys) n
    ≡ true
has_number-append_right [] ys n has = has
has_number-append_right (x ∷ xs) ys n has = rw (has_number-append_right xs ys n has) (or_true (nat_eq x n))

-- ---- values

-- what is stored and isn't volatile is durable, if it is an object
kept-durable : (durable : List ℕ) (n : ℕ) → is_volatile durable (Object n) ≡ false → has_number durable n
    ≡ true
kept-durable durable n e = elim (has_number durable n) as (λ b. not b ≡ false → b ≡ true) [
  | true ↦ λ k. refl
  | false ↦ λ k. absurd (true≢false k)
] e

pub object-durable : (durable : List ℕ) (value : Value) (n : ℕ) → is_volatile durable value ≡ false
    → value ≡ Object n → has_number durable n ≡ true
object-durable durable value n kept is =
    kept-durable durable n (subst (λ v. is_volatile durable v ≡ false) is kept)

-- what a list has once one of its values is another
set-contains : (values : List Value) (i : ℕ) (value : Value) (n : ℕ)
    → Contains (slice_set values i value) (Object n) → Contains values (Object n) ⊎ (value ≡ Object n)
set-contains values i value n h = elim (nat_eq h.0 i) as (λ b. nat_eq h.0 i ≡ b
    → Contains values (Object n) ⊎ (value ≡ Object n)) [
      | true ↦ λ e.
          let same : h.0 ≡ i = eqb-true h.0 i e in
          let long = length-set values i value in
          let within : i < length values = (let lt = h.1 in omega arith) in
          inr (sym (get_or-set_same values i value (Object n) within)
          ∙ ap (λ k. get_or (set values i value) k (Object n)) (sym same) ∙ h.2)
      | false ↦ λ e.
          let long = length-set values i value in
          let within : h.0 < length values = (let lt = h.1 in omega arith) in
          let other : h.0 ≢ i = λ same. false≢true (sym e ∙ eq-eqb h.0 i same) in
          inl (h.0, within, sym (get_or-set_other values i h.0 value (Object n) other) ∙ h.2)
    ] refl

-- ---- stores

module _ (heap : Heap) (durable : List ℕ) (c : AreClosed heap durable) where
  slot-objects : (n i : ℕ) (value : Value) → (has_number durable n ≡ true → is_volatile durable value ≡ false)
      → (m k : ℕ) → has_number durable m ≡ true → Refers (stored heap (Slot n i) value) m k
      → has_number durable k ≡ true
  slot-objects n i value kept m k is refers = elim (nat_eq m n) as (λ b. nat_eq m n ≡ b
      → has_number durable k ≡ true) [
        | true ↦ λ e. own (eqb-true m n e)
        | false ↦ λ e. c.objects m k is (subst (λ (o : Obj). Contains o.values (Object k))
            (get_or-set_other heap.objects n m (with_slot (object_at heap n) i value) no_object
            (λ same. false≢true (sym e ∙ eq-eqb m n same))) refers)
      ] refl
    where
      here : n < length heap.objects → Contains (slice_set (values_of heap n) i value) (Object k)
          → has_number durable n ≡ true → has_number durable k ≡ true
      here within has owns = elim (set-contains (values_of heap n) i value k has) [
        | inl before ↦ c.objects n k owns before
        | inr new ↦ object-durable durable value k (kept owns) new
      ]

      -- past the end a store changes nothing, and there is nothing
      within : Refers (stored heap (Slot n i) value) n k → n < length heap.objects
      within r = elim (cases_lt n (length heap.objects)) [
        | inl less ↦ less
        | inr past ↦ absurd (
            let long = length-set heap.objects n (with_slot (object_at heap n) i value) in
            let none = get_or-eq_default (slice_set heap.objects n (with_slot (object_at heap n) i value))
            no_object
            (omega (arith, long, past)) in
            let empty : Contains [] (Object k) = subst (λ (o : Obj). Contains o.values (Object k)) none r in
            let lt = empty.1 in omega (arith, lt))
      ]

      own : m ≡ n → has_number durable k ≡ true
      own same =
          let r : Refers (stored heap (Slot n i) value) n k
          = subst (λ x. Refers (stored heap (Slot n i) value) x k) same refers in
          let inside = within r in
          here inside
          (subst (λ (o : Obj). Contains o.values (Object k))
          (get_or-set_same heap.objects n (with_slot (object_at heap n) i value) no_object inside) r)
          (subst (λ x. has_number durable x ≡ true) same is)

  -- a store to a slot of an object that isn't durable, or of what isn't volatile
  pub slot-stored : (n i : ℕ) (value : Value)
      → (has_number durable n ≡ true → is_volatile durable value ≡ false)
      → AreClosed (stored heap (Slot n i) value) durable
  slot-stored n i value kept = record { objects = slot-objects n i value kept; roots = c.roots }

  static-roots : (f : ℕ) (value : Value) → (is_root heap.roots f ≡ true → is_volatile durable value ≡ false)
      → (k n : ℕ) → is_root heap.roots k ≡ true → slice_get (slice_set heap.statics f value) k
      ≡ Some (Object n)
      → has_number durable n ≡ true
  static-roots f value kept k n root is = elim (nat_eq k f) as
      (λ b. nat_eq k f ≡ b → has_number durable n ≡ true) [
        | true ↦ λ e. own (eqb-true k f e)
        | false ↦ λ e. c.roots k n root (unchanged (λ same. false≢true (sym e ∙ eq-eqb k f same)))
      ] refl
    where
      there : k < length heap.statics
      there = let inside = slice_get_within (slice_set heap.statics f value) k (Object n) is in
          let long = length-set heap.statics f value in omega (arith, inside, long)

      at : get_or (set heap.statics f value) k Null ≡ Object n
      at = get_or_from_slice_get (slice_set heap.statics f value) k (Object n) Null is

      unchanged : k ≢ f → slice_get heap.statics k ≡ Some (Object n)
      unchanged other = slice_get-get_or heap.statics k Null there
          ∙ ap Some (sym (get_or-set_other heap.statics f k value Null other) ∙ at)

      own : k ≡ f → has_number durable n ≡ true
      own same =
          let inside : f < length heap.statics = subst (λ x. x < length heap.statics) same there in
          object-durable durable value n (kept (subst (λ x. is_root heap.roots x ≡ true) same root))
          (sym (get_or-set_same heap.statics f value Null inside)
          ∙ ap (λ x. get_or (set heap.statics f value) x Null) (sym same) ∙ at)

  pub static-stored : (f : ℕ) (value : Value)
      → (is_root heap.roots f ≡ true → is_volatile durable value ≡ false)
      → AreClosed (stored heap (Static f) value) durable
  static-stored f value kept = record { objects = c.objects; roots = static-roots f value kept }

  -- ---- new objects

  pub made : (shape count : ℕ) → ((n : ℕ) → has_number durable n ≡ true → n < length heap.objects)
      → AreClosed (with_fresh heap shape count) durable
  made shape count below = record {
    objects = λ m n is refers. c.objects m n is (subst (λ (o : Obj). Contains o.values (Object n))
        (get_or_append_left heap.objects _ no_object m (below m is)) refers);
    roots = c.roots;
  }

  -- ---- what becomes durable

  pub joined : (named : List ℕ) → ((m n : ℕ) → has_number named m ≡ true → Refers heap m n
      → (has_number durable n ≡ true) ⊎ (has_number named n ≡ true)) → AreClosed heap (durable ++ named)
  joined named closed = record {
    objects = λ m n is refers. elim (has_number-append_cases durable named m is) [
      | inl before ↦ has_number-append_left durable named n (c.objects m n before refers)
      | inr new ↦ either n (closed m n new refers)
    ];
    roots = λ k n root is. has_number-append_left durable named n (c.roots k n root is);
  }
    where
      either : (n : ℕ) → (has_number durable n ≡ true) ⊎ (has_number named n ≡ true)
          → has_number (durable ++ named) n ≡ true
      either n (inl is) = has_number-append_left durable named n is
      either n (inr is) = has_number-append_right durable named n is
