-- What is reached after a store, and from a closed set.
use Rattle.std.proofs.Common.{◌≡◌, ◌⊎◌, inl, inr, ℕ, ◌<◌, true, false, nat_eq, [], length, sym, ◌∙◌, subst, arith, eqb-true, eq-eqb, refl}
use Rattle.std.specs.Prelude.{Contains, slice_set}
use Rattle.std.proofs.Math.ListN.{get_or-eq_default}
use Rattle.std.proofs.lemmas.Bool.{false≢true, cases_lt}
use Rattle.std.proofs.lemmas.List.{get_or-set_same, get_or-set_other, length-set}
use Rattle.ap_base.specs.declared.place.Place.TheVariants.{Slot}
use Rattle.graph_model.specs.declared.types.Value.{Value}
use Rattle.graph_model.specs.declared.types.Value.TheVariants.{Obj as Object}
use Rattle.graph_model.specs.declared.types.Obj.{Obj}
use Rattle.graph_model.specs.declared.types.Heap.{Heap}
use Rattle.graph_model.specs.Heaps.{no_object, object_at, values_of, with_slot, stored}
use Rattle.graph_model.specs.Reach.{Refers, Reaches, here, along}
use Rattle.audit_rules.proofs.Closed.{set-contains}

-- a reference after a store was there before, or is the one that was stored
pub refers-stored : (heap : Heap) (n i : ℕ) (value : Value) (m k : ℕ) → Refers (stored heap (Slot n i) value) m k
    → Refers heap m k ⊎ ((m ≡ n) × (value ≡ Object k))
refers-stored heap n i value m k refers = elim (nat_eq m n) as (λ b. nat_eq m n ≡ b → Refers heap m k ⊎ ((m ≡ n) × (value ≡ Object k))) [
  | true ↦ λ e. own (eqb-true m n e)
  | false ↦ λ e. inl (subst (λ (o : Obj). Contains o.values (Object k))
      (get_or-set_other heap.objects n m (with_slot (object_at heap n) i value) no_object
      (λ same. false≢true (sym e ∙ eq-eqb m n same))) refers)
] refl
  where
    -- past the end a store changes nothing, and there is nothing
    within : Refers (stored heap (Slot n i) value) n k → n < length heap.objects
    within r = elim (cases_lt n (length heap.objects)) [
      | inl less ↦ less
      | inr past ↦ absurd (
          let long = length-set heap.objects n (with_slot (object_at heap n) i value) in
          let none = get_or-eq_default (slice_set heap.objects n (with_slot (object_at heap n) i value)) no_object
          (omega (arith, long, past)) in
          let empty : Contains [] (Object k) = subst (λ (o : Obj). Contains o.values (Object k)) none r in
          let lt = empty.1 in omega (arith, lt))
    ]

    own : m ≡ n → Refers heap m k ⊎ ((m ≡ n) × (value ≡ Object k))
    own same =
        let r : Refers (stored heap (Slot n i) value) n k = subst (λ x. Refers (stored heap (Slot n i) value) x k) same refers in
        let has : Contains (slice_set (values_of heap n) i value) (Object k) = subst (λ (o : Obj). Contains o.values (Object k))
        (get_or-set_same heap.objects n (with_slot (object_at heap n) i value) no_object (within r)) r in
        elim (set-contains (values_of heap n) i value k has) [
          | inl before ↦ inl (subst (λ x. Refers heap x k) (sym same) before)
          | inr new ↦ inr (same, new)
        ]

-- what is reached from objects of a closed set is of the set
pub reaches-within : (heap : Heap) (From In : ℕ → Type 0) → ((m : ℕ) → From m → In m) → ((m n : ℕ) → In m → Refers heap m n → In n)
    → (n : ℕ) → Reaches heap From n → In n
reaches-within heap From In starts closed _ (here n is) = starts n is
reaches-within heap From In starts closed _ (along m n r refers) = closed m n (reaches-within heap From In starts closed m r) refers

pub reaches-more : (heap : Heap) (From More : ℕ → Type 0) → ((m : ℕ) → From m → More m) → (n : ℕ) → Reaches heap From n → Reaches heap More n
reaches-more heap From More more n r = reaches-within heap From (Reaches heap More) (λ m is. here m (more m is)) (λ m k reached refers. along m k reached refers) n r
