-- The tests by what is kept are those by what is known.
use Rattle.std.proofs.Common.{◌≡◌, ℕ, ◌≤◌, [], arith, Bool, true, false, not, ◌&&◌, map, Option, Some, None, refl, sym, ◌∙◌, ap}
use Rattle.std.specs.Prelude.{nat_lt}
use Rattle.ap_base.specs.declared.place.Place.{Place}
use Rattle.ap_base.specs.declared.place.Place.TheVariants.{Static, Slot}
use Rattle.graph_model.specs.declared.types.Value.{Value}
use Rattle.graph_model.specs.declared.types.Value.TheVariants.{Int, Long, Null, Obj as Object}
use Rattle.graph_model.specs.Heaps.{has_number}
use Rattle.run_history.specs.declared.act.Op.{Op}
use Rattle.run_history.specs.Worlds.{depth_of}
use Rattle.run_history.specs.Knowing.{Knowledge, owes_fence, pending_of, durable_at, guard_of, has_guards}
use Rattle.plain_model.specs.Runs.{is_volatile}
use Rattle.graph_model.specs.declared.types.Heap.{Heap}
use Rattle.graph_model.specs.Heaps.{kept_values_of}
use Rattle.audit_rules.specs.Closing.{are_durable, refer_durably}
use Rattle.audit_rules.specs.Rules.{is_some, may_join_each, join_test}
use Rattle.audit_keeping.specs.Keeping.{AreMarks, are_durable_in, refer_durably_in, join_test_in, mark_test, marked_with, wanted_in}
use Rattle.audit_keeping.proofs.Marking.{marking-is-joining}
use Rattle.std.proofs.Common.{subst, List, ◌++◌, ◌∷◌}
use Rattle.audit_keeping.specs.declared.keeping.Keeping.{Keeping}
use Rattle.audit_rules.specs.Rules.{stored_next, is_object, asks_volatile, wanted_slot, is_durable_value, store_test, names_test, rule_test, act_test}
use Rattle.audit_rules.specs.Closing.{stays_closed}
use Rattle.run_history.specs.declared.act.Op.TheVariants as op
use Rattle.audit_keeping.specs.Keeping.{Keeps, lists_of, IsOther, owed_in, rule_test_in, act_test_in, AreTheRules, pending_in, wanted_in, asks_volatile_in, wanted_slot_in, guard_in, volatile_in, durable_in, durable_value_in}

module _ (known : Knowledge) (k : Keeping) (keeps : Keeps known (lists_of k)) where
  pub volatile-same : (v : Value) → volatile_in k.durable.items v ≡ is_volatile known.durable v
  volatile-same (Object n) = ap not (sym (keeps.durable n))
  volatile-same (Int i) = refl
  volatile-same (Long i) = refl
  volatile-same Null = refl

  pub durable-same : (place : Place) → durable_in k.roots.items k.durable.items place ≡ durable_at known place
  durable-same (Static n) = sym (keeps.roots n)
  durable-same (Slot n i) = sym (keeps.durable n)

  value-same : (v : Option Value) → durable_value_in k.durable.items v ≡ is_durable_value known.durable v
  value-same None = refl
  value-same (Some v) = ap not (volatile-same v)

  guard-same : (place : Place) → guard_of (map guard_in k.guards.items) place ≡ guard_of known.guards place
  guard-same place = ap (λ gs. guard_of gs place) (sym keeps.guards)

  guards-same : (t : ℕ) → has_guards (map guard_in k.guards.items) t ≡ has_guards known.guards t
  guards-same t = ap (λ gs. has_guards gs t) (sym keeps.guards)

  closing-same : (t : ℕ) → has_number k.closing.items t ≡ has_number known.closing t
  closing-same t = ap (λ ts. has_number ts t) (sym keeps.closing)

  asks-same : (v : Value) (next : Option Value) → asks_volatile_in k.durable.items v next ≡ asks_volatile known.durable v next
  asks-same (Object n) next = ap (λ b. not b && is_object n next) (sym (keeps.durable n))
  asks-same (Int i) next = refl
  asks-same (Long i) next = refl
  asks-same Null next = refl

  slot-same : (place : Place) → wanted_slot_in k.asked.items place ≡ wanted_slot known (wanted_in k.asked.items) place
  slot-same (Static n) = refl
  slot-same (Slot n i) = refl

  pending-same : (t : ℕ) → pending_of (map pending_in k.asked.items) t ≡ pending_of known.asked t
  pending-same t = ap (λ ps. pending_of ps t) (sym keeps.asked)

  pub are-the-rules : (ahead : Option Op) (t : ℕ) → AreTheRules known k ahead t
  are-the-rules ahead t = record {
    guarded = λ place. rw (value-same (stored_next ahead place), closing-same t, durable-same place, guard-same place) refl;
    closing = rw (guards-same t, closing-same t) refl;
    stored = λ place. rw (durable-same place, guard-same place) refl;
    asked = λ place value. rw (pending-same t, asks-same value (stored_next ahead place), durable-same place, slot-same place) refl;
    ended = rw (guards-same t, closing-same t) refl;
  }

  owes-same : (t : ℕ) → owes_fence (map owed_in k.unfenced.items) t ≡ owes_fence known.unfenced t
  owes-same t = ap (λ us. owes_fence us t) (sym keeps.unfenced)

  and-true : (b : Bool) → (b && true) ≡ b
  and-true true = refl
  and-true false = refl

  and-assoc : (a b c : Bool) → (a && (b && c)) ≡ ((a && b) && c)
  and-assoc true b c = refl
  and-assoc false b c = refl

  not-later : (at : ℕ) → known.at ≤ at → not (nat_lt at known.at) ≡ true
  not-later at later = grind (arith, later)

  -- the rule and what stays closed, of an operation that isn't Joined
  rule-same : (ahead : Option Op) (about : Bool) (t : ℕ) (o : Op) → IsOther o → rule_test_in k ahead about t (depth_of known.world t) o
      ≡ (rule_test known ahead (wanted_in k.asked.items) about t [] o && stays_closed known [] o)
  rule-same ahead about t (op.Asked place value) other = (are-the-rules ahead t).asked place value ∙ sym (and-true _)
  rule-same ahead about t op.Joined other = absurd other
  rule-same ahead about t (op.Guarded place) other = (are-the-rules ahead t).guarded place ∙ sym (and-true _)
  rule-same ahead about t op.Closing other = (are-the-rules ahead t).closing ∙ sym (and-true _)
  rule-same ahead about t op.Fenced other = refl
  rule-same ahead about t (op.Stored place value) other =
      rw ((are-the-rules ahead t).stored place, durable-same place, volatile-same value)
      (and-assoc about (store_test known t place) (not (durable_at known place && is_volatile known.durable value)))
  rule-same ahead about t op.End other = ap (λ b. about && b) (are-the-rules ahead t).ended ∙ sym (and-true _)
  rule-same ahead about t o other = sym (and-true about)

  named-other : (o : Op) → IsOther o → names_test o [] ≡ true
  named-other op.Joined other = refl
  named-other o other = refl

  pub acts-tested : (ahead : Option Op) (about : Bool) (t at : ℕ) (o : Op) → IsOther o → known.at ≤ at
      → act_test_in k ahead about t (depth_of known.world t) o
      ≡ act_test known ahead (wanted_in k.asked.items) about (record { act = record { thread = t; at = at; op = o }; named = [] })
  acts-tested ahead about t at o other later =
      rw (not-later at later, named-other o other, owes-same t, rule-same ahead about t o other) refl

-- marks tell what is volatile
value-marked : (durable : List ℕ) (marks : List Bool) → AreMarks durable marks → (v : Value) → volatile_in marks v ≡ is_volatile durable v
value-marked durable marks are (Object n) = ap not (sym (are n))
value-marked durable marks are (Int i) = refl
value-marked durable marks are (Long i) = refl
value-marked durable marks are Null = refl

values-marked : (durable : List ℕ) (marks : List Bool) → AreMarks durable marks → (vs : List Value) → are_durable_in marks vs ≡ are_durable durable vs
values-marked durable marks are [] = refl
values-marked durable marks are (v ∷ vs) = rw (value-marked durable marks are v, values-marked durable marks are vs) refl

refer-marked : (heap : Heap) (durable : List ℕ) (marks : List Bool) → AreMarks durable marks → (ns : List ℕ) → refer_durably_in heap marks ns ≡ refer_durably heap durable ns
refer-marked heap durable marks are [] = refl
refer-marked heap durable marks are (n ∷ ns) = rw (values-marked durable marks are (kept_values_of heap n), refer-marked heap durable marks are ns) refl

-- only a mark test that passes leaves the marks that the second test reads
both-tests : (some marked each in_marks in_list : Bool) → marked ≡ each → (marked ≡ true → in_marks ≡ in_list)
    → (some && (marked && in_marks)) ≡ ((some && each) && in_list)
both-tests false marked each in_marks in_list same f = refl
both-tests true true each in_marks in_list same f = subst (λ b. in_marks ≡ (b && in_list)) same (f refl)
both-tests true false each in_marks in_list same f = subst (λ b. false ≡ (b && in_list)) same refl

pub joined-tested : (known : Knowledge) (k : Keeping) (named : List ℕ) → Keeps known (lists_of k)
    → join_test_in known.world.heap k named ≡ (join_test known (wanted_in k.asked.items) named && stays_closed known named op.Joined)
joined-tested known k named keeps =
    let marking = marking-is-joining known.durable k.durable.items k.asked.items named keeps.durable keeps.short in
    both-tests (is_some named) (mark_test k.durable.items k.asked.items named) (may_join_each known.durable (wanted_in k.asked.items) named)
    (refer_durably_in known.world.heap (marked_with k.durable.items named) named) (refer_durably known.world.heap (known.durable ++ named) named)
    marking.tests (λ is. refer-marked known.world.heap (known.durable ++ named) (marked_with k.durable.items named) (marking.marks_now is) named)
