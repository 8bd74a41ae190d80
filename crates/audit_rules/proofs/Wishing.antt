-- The tests of what is asked and of what becomes durable are exact.
use Rattle.std.proofs.Common.{◌≡◌, ◌≢◌, ◌⊎◌, inl, inr, ℕ, suc, Bool, true, false, not, ◌&&◌, ◌||◌, nat_eq, List, [], ◌∷◌, Option, Some, None, refl, sym, ◌∙◌, ap, arith, eqb-true, eq-eqb}
use Rattle.std.specs.Prelude.{All, AllPairs}
use Rattle.std.proofs.lemmas.Bool.{false≢true, true≢false}
use Rattle.std.proofs.lemmas.List.Elements.{All-nil, All-cons, All-head, All-tail}
use Rattle.std.proofs.lemmas.List.Kept.{AllPairs-cons}
use Rattle.ap_base.specs.declared.place.Place.{Place}
use Rattle.ap_base.specs.declared.place.Place.TheVariants.{Static, Slot}
use Rattle.graph_model.specs.declared.types.Value.{Value}
use Rattle.graph_model.specs.declared.types.Value.TheVariants.{Int, Long, Null, Obj as Object}
use Rattle.graph_model.specs.Heaps.{has_number, is_kept_slot}
use Rattle.run_history.specs.declared.act.Op.{Op}
use Rattle.run_history.specs.Knowing.{Knowledge, Pending, durable_at, pending_of}
use Rattle.run_history.specs.Wanted.{Wishes}
use Rattle.plain_model.specs.Facts.{SetFacts}
use Rattle.plain_model.specs.Requests.{PlainRequest}
use Rattle.plain_model.specs.Runs.{op_given, MayAsk, MayJoin, IsKeptSlotOfWanted}
use Rattle.audit_rules.specs.Rules.{stored_next, none_pending, is_object, asks_volatile, wanted_slot, ask_test, may_join_each, is_some, join_test, AreWanted, WishesAreTested}
use Rattle.audit_rules.proofs.Tests.{both, and-both, not-true, or-cases, or-left, or-right}
use Rattle.audit_rules.proofs.Regions.{next-stored, stored-next}

pending-none : (p : Option Pending) → none_pending p ≡ true → p ≡ None
pending-none None is = refl
pending-none (Some p) is = absurd (let none : false ≡ true = is in cc)

object-is : (n : ℕ) (v : Option Value) → is_object n v ≡ true → v ≡ Some (Object n)
object-is n (Some (Object m)) is = ap (λ k. Some (Object k)) (eqb-true m n is)
object-is n (Some (Int i)) is = absurd (let none : false ≡ true = is in cc)
object-is n (Some (Long i)) is = absurd (let none : false ≡ true = is in cc)
object-is n (Some Null) is = absurd (let none : false ≡ true = is in cc)
object-is n None is = absurd (let none : false ≡ true = is in cc)

is-object : (n : ℕ) (v : Option Value) → v ≡ Some (Object n) → is_object n v ≡ true
is-object n v is = ap (is_object n) is ∙ eq-eqb n n refl

asks-it : (durable : List ℕ) (value : Value) (next : Option Value) → asks_volatile durable value next ≡ true
    → ((n : ℕ) × (value ≡ Object n) × (has_number durable n ≡ false)) × (next ≡ Some value)
asks-it durable (Object n) next is =
    let (volatile, same) = both (not (has_number durable n)) (is_object n next) is in
    ((n, refl, not-true (has_number durable n) volatile), object-is n next same)
asks-it durable (Int i) next is = absurd (let none : false ≡ true = is in cc)
asks-it durable (Long i) next is = absurd (let none : false ≡ true = is in cc)
asks-it durable Null next is = absurd (let none : false ≡ true = is in cc)

it-asks : (durable : List ℕ) (value : Value) (next : Option Value) (n : ℕ) → value ≡ Object n → has_number durable n ≡ false
    → next ≡ Some value → asks_volatile durable value next ≡ true
it-asks durable value next n same volatile is =
    ap (λ v. asks_volatile durable v next) same
    ∙ and-both (not (has_number durable n)) (is_object n next) (ap not volatile) (is-object n next (is ∙ ap Some same))

-- ---- what becomes durable, one by one

not-has-cons : (m n : ℕ) (ns : List ℕ) → has_number (m ∷ ns) n ≡ false → (m ≢ n) × (has_number ns n ≡ false)
not-has-cons m n ns no_one = elim (nat_eq m n) as (λ b. nat_eq m n ≡ b → (b || has_number ns n) ≡ false → (m ≢ n) × (has_number ns n ≡ false)) [
  | true ↦ λ e h. absurd (true≢false h)
  | false ↦ λ e h. ((λ same. false≢true (sym e ∙ eq-eqb m n same)), h)
] refl no_one

differ-each : (n : ℕ) (ns : List ℕ) → has_number ns n ≡ false → All (λ m. n ≢ m) ns
differ-each n [] is = All-nil (λ m. n ≢ m)
differ-each n (m ∷ ns) is =
    let (here, rest) = not-has-cons m n ns is in
    All-cons (λ k. n ≢ k) m ns (λ same. here (sym same)) (differ-each n ns rest)

each-differs : (n : ℕ) (ns : List ℕ) → All (λ m. n ≢ m) ns → has_number ns n ≡ false
each-differs n [] all = refl
each-differs n (m ∷ ns) all = elim (nat_eq m n) as (λ b. nat_eq m n ≡ b → (b || has_number ns n) ≡ false) [
  | true ↦ λ e. absurd (All-head (λ k. n ≢ k) m ns all (sym (eqb-true m n e)))
  | false ↦ λ e. each-differs n ns (All-tail (λ k. n ≢ k) m ns all)
] refl

first-pairs : (n : ℕ) (ns : List ℕ) → AllPairs (λ x y. x ≢ y) (n ∷ ns) → All (λ m. n ≢ m) ns
first-pairs n ns all = λ k d within. all 0 (suc k) d (omega arith) (omega (arith, within))

rest-pairs : (n : ℕ) (ns : List ℕ) → AllPairs (λ x y. x ≢ y) (n ∷ ns) → AllPairs (λ x y. x ≢ y) ns
rest-pairs n ns all = λ i j d before within. all (suc i) (suc j) d (omega (arith, before)) (omega (arith, within))

module _ (durable : List ℕ) (wanted : ℕ → Bool) where
  pub record JoinEach (ns : List ℕ) : Type 0 where
    pub once : AllPairs (λ m n. m ≢ n) ns
    pub volatile : All (λ n. has_number durable n ≡ false) ns
    pub are_wanted : All (λ n. wanted n ≡ true) ns

  join-each : (ns : List ℕ) → may_join_each durable wanted ns ≡ true → JoinEach ns
  join-each [] is = record {
    once = λ i j d before within. absurd (omega (arith, within));
    volatile = All-nil (λ n. has_number durable n ≡ false);
    are_wanted = All-nil (λ n. wanted n ≡ true);
  }
  join-each (n ∷ ns) is =
      let (volatile_, rest) = both (not (has_number durable n)) (wanted n && (not (has_number ns n) && may_join_each durable wanted ns)) is in
      let (wanted_, rest') = both (wanted n) (not (has_number ns n) && may_join_each durable wanted ns) rest in
      let (new, each) = both (not (has_number ns n)) (may_join_each durable wanted ns) rest' in
      let behind = join-each ns each in
      record {
        once = AllPairs-cons (λ x y. x ≢ y) n ns (differ-each n ns (not-true (has_number ns n) new)) behind.once;
        volatile = All-cons (λ k. has_number durable k ≡ false) n ns (not-true (has_number durable n) volatile_) behind.volatile;
        are_wanted = All-cons (λ k. wanted k ≡ true) n ns wanted_ behind.are_wanted;
      }

  each-joins : (ns : List ℕ) → JoinEach ns → may_join_each durable wanted ns ≡ true
  each-joins [] each = refl
  each-joins (n ∷ ns) each =
      and-both (not (has_number durable n)) _ (ap not (All-head (λ k. has_number durable k ≡ false) n ns each.volatile))
      (and-both (wanted n) _ (All-head (λ k. wanted k ≡ true) n ns each.are_wanted)
      (and-both (not (has_number ns n)) _ (ap not (each-differs n ns (first-pairs n ns each.once)))
      (each-joins ns (record {
        once = rest-pairs n ns each.once;
        volatile = All-tail (λ k. has_number durable k ≡ false) n ns each.volatile;
        are_wanted = All-tail (λ k. wanted k ≡ true) n ns each.are_wanted;
      }))))

some-not : (ns : List ℕ) → is_some ns ≡ true → ns ≢ []
some-not [] is same = false≢true is
some-not (n ∷ ns) is same = false≢true (sym (ap is_some same))

not-some : (ns : List ℕ) → ns ≢ [] → is_some ns ≡ true
not-some [] other = absurd (other refl)
not-some (n ∷ ns) other = refl

All-of-both : (P Q R : ℕ → Type 0) (ns : List ℕ) → ((n : ℕ) → P n → Q n → R n) → All P ns → All Q ns → All R ns
All-of-both P Q R [] f ps qs = All-nil R
All-of-both P Q R (n ∷ ns) f ps qs = All-cons R n ns (f n (All-head P n ns ps) (All-head Q n ns qs))
    (All-of-both P Q R ns f (All-tail P n ns ps) (All-tail Q n ns qs))

module _ (set : SetFacts) (known : Knowledge) (request : Option PlainRequest) (t : ℕ) (wanted : ℕ → Bool) (Now : Wishes)
    (are : AreWanted known.durable wanted Now) where
  abbrev next : Option Op
  next = op_given set known.world t 1 request

  join-may : (named : List ℕ) → join_test known wanted named ≡ true → MayJoin known Now named
  join-may named is =
      let (some_, each) = both (is_some named) (may_join_each known.durable wanted named) is in
      let all = join-each known.durable wanted named each in
      record {
        some = some-not named some_;
        once = all.once;
        volatile = all.volatile;
        wanted = All-of-both (λ n. has_number known.durable n ≡ false) (λ n. wanted n ≡ true) (λ n. (u : ℕ) × Now u n) named
            (λ n v w. (are n v).0 w) all.volatile all.are_wanted;
      }

  may-join : (named : List ℕ) → MayJoin known Now named → join_test known wanted named ≡ true
  may-join named may =
      and-both (is_some named) _ (not-some named may.some)
      (each-joins known.durable wanted named (record {
        once = may.once;
        volatile = may.volatile;
        are_wanted = All-of-both (λ n. has_number known.durable n ≡ false) (λ n. (u : ℕ) × Now u n) (λ n. wanted n ≡ true) named
            (λ n v w. (are n v).1 w) may.volatile may.wanted;
      }))

  -- a slot of an object that is marked is durable, or some thread wants the object
  slot-held : (place : Place) → wanted_slot known wanted place ≡ true → (durable_at known place ≡ true) ⊎ IsKeptSlotOfWanted known Now place
  slot-held (Static n) is = absurd (let none : false ≡ true = is in cc)
  slot-held (Slot n i) is =
      let (kept, wants) = both (is_kept_slot known.world.heap n i) (wanted n) is in
      elim (has_number known.durable n) as (λ b. has_number known.durable n ≡ b
      → (durable_at known (Slot n i) ≡ true) ⊎ IsKeptSlotOfWanted known Now (Slot n i)) [
        | true ↦ λ e. inl (and-both (is_kept_slot known.world.heap n i) (has_number known.durable n) kept e)
        | false ↦ λ e. let by = (are n e).0 wants in inr (record { thread = by.0; object = n; slot = i; is_slot = refl; is_kept = kept; wanted = by.1 })
      ] refl

  held-slot : (place : Place) → IsKeptSlotOfWanted known Now place → (durable_at known place || wanted_slot known wanted place) ≡ true
  held-slot place w = ap (λ p. durable_at known p || wanted_slot known wanted p) w.is_slot
      ∙ elim (has_number known.durable w.object) as (λ b. has_number known.durable w.object ≡ b
      → (durable_at known (Slot w.object w.slot) || wanted_slot known wanted (Slot w.object w.slot)) ≡ true) [
        | true ↦ λ e. or-left (durable_at known (Slot w.object w.slot)) (wanted_slot known wanted (Slot w.object w.slot))
            (and-both (is_kept_slot known.world.heap w.object w.slot) (has_number known.durable w.object) w.is_kept e)
        | false ↦ λ e. or-right (durable_at known (Slot w.object w.slot)) (wanted_slot known wanted (Slot w.object w.slot))
            (and-both (is_kept_slot known.world.heap w.object w.slot) (wanted w.object) w.is_kept ((are w.object e).1 (w.thread, w.wanted)))
      ] refl

  ask-may : (place : Place) (value : Value) → ask_test known next wanted t place value ≡ true → MayAsk set known Now request t place value
  ask-may place value is =
      let (pending, rest) = both (none_pending (pending_of known.asked t))
      (asks_volatile known.durable value (stored_next next place) && (durable_at known place || wanted_slot known wanted place)) is in
      let (asks, held) = both (asks_volatile known.durable value (stored_next next place)) (durable_at known place || wanted_slot known wanted place) rest in
      let it = asks-it known.durable value (stored_next next place) asks in
      record {
        none_pending = pending-none (pending_of known.asked t) pending;
        is_about = next-stored next place value it.1;
        volatile = it.0;
        holder = elim (or-cases (durable_at known place) (wanted_slot known wanted place) held) [
          | inl is' ↦ inl is'
          | inr is' ↦ slot-held place is'
        ];
      }

  may-ask : (place : Place) (value : Value) → MayAsk set known Now request t place value → ask_test known next wanted t place value ≡ true
  may-ask place value may =
      and-both (none_pending (pending_of known.asked t)) _ (ap none_pending may.none_pending)
      (and-both (asks_volatile known.durable value (stored_next next place)) _
      (it-asks known.durable value (stored_next next place) may.volatile.0 may.volatile.1 may.volatile.2 (stored-next next place value may.is_about))
      (elim may.holder [
        | inl is ↦ or-left (durable_at known place) (wanted_slot known wanted place) is
        | inr slot ↦ held-slot place slot
      ]))

  pub wishes-tested : WishesAreTested set known request t wanted Now
  wishes-tested = record {
    asked = λ place value. (ask-may place value, may-ask place value);
    joined = λ named. (join-may named, may-join named);
  }
