-- What is pending of a thread was asked by it, with no store of it since.
use Rattle.std.proofs.Common.{◌≡◌, ◌⊎◌, inl, inr, ℕ, Bool, true, false, List, [], ◌∷◌, ◌++◌, refl, ap, sym, ◌∙◌, nat_eq, not}
use Rattle.std.proofs.Common.{cond, if◌then◌else◌, eq-eqb, arith}
use Rattle.std.specs.Prelude.{All, Some, None, filter}
use Rattle.std.proofs.lemmas.Bool.{eqb-true}
use Rattle.std.proofs.lemmas.List.Elements.{All-nil, All-cons}
use Rattle.run_history.specs.declared.act.Op.{Op}
use Rattle.run_history.specs.declared.act.Op.TheVariants as op
use Rattle.run_history.specs.Recorded.{Recorded}
use Rattle.run_history.specs.Knowing.{Knowledge, Pending, pending_of, next_known, known_after, known_after_op, is_outermost}
use Rattle.run_history.specs.Knowing.{after_end}
use Rattle.plain_model.specs.Laws.{IsStored, WasAsked}

-- of a list with one more, the pending act of a thread is that of the list or the new one
pending_of-push : (ps : List Pending) (q : Pending) (u : ℕ) (p : Pending) → pending_of (ps ++ q ∷ []) u ≡ Some p
    → (pending_of ps u ≡ Some p) ⊎ ((q.thread ≡ u) × (q ≡ p))
pending_of-push [] q u p is =
    elim (nat_eq q.thread u) as (λ b. nat_eq q.thread u ≡ b → (if b then Some q else None) ≡ Some p → (None ≡ Some p) ⊎ ((q.thread ≡ u) × (q ≡ p))) [
      | true ↦ λ same e. inr (eqb-true q.thread u same, (let it : Some q ≡ Some p = e in cc))
      | false ↦ λ other e. inl e
    ] refl is
pending_of-push (x ∷ ps) q u p is =
    elim (nat_eq x.thread u) as (λ b. (if b then Some x else pending_of (ps ++ q ∷ []) u) ≡ Some p
    → ((if b then Some x else pending_of ps u) ≡ Some p) ⊎ ((q.thread ≡ u) × (q ≡ p))) [
      | true ↦ λ e. inl e
      | false ↦ λ e. pending_of-push ps q u p e
    ] is

abbrev without : ℕ → List Pending → List Pending
without t ps = filter (λ (p : Pending). not (nat_eq p.thread t)) ps

-- without what is pending of thread t, only other threads have something pending, and what they had
pending_of-without : (ps : List Pending) (t u : ℕ) (p : Pending) → pending_of (without t ps) u ≡ Some p
    → (nat_eq u t ≡ false) × (pending_of ps u ≡ Some p)
pending_of-without [] t u p is = absurd (let no : None ≡ Some p = is in cc)
pending_of-without (x ∷ ps) t u p is = elim (nat_eq x.thread t) as (λ b. nat_eq x.thread t ≡ b
    → pending_of (cond (not b) (x ∷ without t ps) (without t ps)) u ≡ Some p → (nat_eq u t ≡ false) × (pending_of (x ∷ ps) u ≡ Some p)) [
      | true ↦ λ e h. gone e (pending_of-without ps t u p h)
      | false ↦ λ e h. stays (pending_of-without ps t u p) e h
    ] refl is
  where
    gone : nat_eq x.thread t ≡ true → (nat_eq u t ≡ false) × (pending_of ps u ≡ Some p) → (nat_eq u t ≡ false) × (pending_of (x ∷ ps) u ≡ Some p)
    gone e (other, h) =
        let same : x.thread ≡ t = eqb-true x.thread t e in
        let another : nat_eq x.thread u ≡ false = grind (arith, same, other) in
        (other, rw another h)

    stays : (pending_of (without t ps) u ≡ Some p → (nat_eq u t ≡ false) × (pending_of ps u ≡ Some p)) → nat_eq x.thread t ≡ false
        → pending_of (x ∷ without t ps) u ≡ Some p → (nat_eq u t ≡ false) × (pending_of (x ∷ ps) u ≡ Some p)
    stays rest e h = elim (nat_eq x.thread u) as (λ b. nat_eq x.thread u ≡ b → (if b then Some x else pending_of (without t ps) u) ≡ Some p
        → (nat_eq u t ≡ false) × ((if b then Some x else pending_of ps u) ≡ Some p)) [
          | true ↦ λ same k. ((let at : x.thread ≡ u = eqb-true x.thread u same in rw at at e), k)
          | false ↦ λ another k. rest k
        ] refl h

abbrev asked_after : List Pending → ℕ → Op → List Pending
asked_after ps t (op.Asked place value) = ps ++ record { thread = t; place = place; value = value } ∷ []
asked_after ps t (op.Stored place value) = without t ps
asked_after ps t o = ps

asked_after_end : (known : Knowledge) (t : ℕ) (outermost : Bool) → (after_end known t outermost).asked ≡ known.asked
asked_after_end known t true = refl
asked_after_end known t false = refl

asked-known_after_op : (known : Knowledge) (t : ℕ) (named : List ℕ) (o : Op) → (known_after_op known t named o).asked ≡ asked_after known.asked t o
unfolding known_after_op
asked-known_after_op known t named op.End = asked_after_end known t (is_outermost known t)
asked-known_after_op known t named o = refl

-- after an operation of thread t, what is pending of thread u was pending before, or is asked by it
pending_of-asked_after : (ps : List Pending) (t u : ℕ) (o : Op) (p : Pending) → pending_of (asked_after ps t o) u ≡ Some p
    → ((pending_of ps u ≡ Some p) × (t ≡ u → IsStored o → ⊥)) ⊎ ((t ≡ u) × (o ≡ op.Asked p.place p.value))
pending_of-asked_after ps t u (op.Asked place value) p is = elim (pending_of-push ps (record { thread = t; place = place; value = value }) u p is) [
  | inl before ↦ inl (before, λ same stored. stored)
  | inr (same, it) ↦ inr (same, ap (λ (q : Pending). op.Asked q.place q.value) it)
]
pending_of-asked_after ps t u (op.Stored place value) p is =
    let (other, before) = pending_of-without ps t u p is in
    inl (before, λ same stored. let no : true ≡ false = sym (eq-eqb u t (sym same)) ∙ other in cc)
pending_of-asked_after ps t u o p is = inl (is, λ same stored. stored)

abbrev NoStore : ℕ → List Recorded → Type 0
NoStore u acts = All (λ (a : Recorded). a.act.thread ≡ u → IsStored a.act.op → ⊥) acts

asked_before : (a : Recorded) (acts : List Recorded) (u : ℕ) (p : Pending) → WasAsked acts u p → WasAsked (a ∷ acts) u p
asked_before a acts u p was = record {
  front = a ∷ was.front;
  asked = was.asked;
  rest = was.rest;
  is_here = ap (λ xs. a ∷ xs) was.is_here;
  by_thread = was.by_thread;
  is_asked = was.is_asked;
  no_store = was.no_store;
}

pub pending_was_asked : (known : Knowledge) (acts : List Recorded) (u : ℕ) (p : Pending) → pending_of (known_after known acts).asked u ≡ Some p
    → ((pending_of known.asked u ≡ Some p) × NoStore u acts) ⊎ WasAsked acts u p
pending_was_asked known [] u p is = inl (is, All-nil (λ (a : Recorded). a.act.thread ≡ u → IsStored a.act.op → ⊥))
pending_was_asked known (a ∷ acts) u p is = elim (pending_was_asked (next_known known a) acts u p is) [
  | inl (now, none) ↦ by_this none (pending_of-asked_after known.asked a.act.thread u a.act.op p
      (rw (asked-known_after_op known a.act.thread a.named a.act.op) at now))
  | inr was ↦ inr (asked_before a acts u p was)
]
  where
    by_this : NoStore u acts
        → ((pending_of known.asked u ≡ Some p) × (a.act.thread ≡ u → IsStored a.act.op → ⊥)) ⊎ ((a.act.thread ≡ u) × (a.act.op ≡ op.Asked p.place p.value))
        → ((pending_of known.asked u ≡ Some p) × NoStore u (a ∷ acts)) ⊎ WasAsked (a ∷ acts) u p
    by_this none (inl (before, not_here)) = inl (before, All-cons (λ (b : Recorded). b.act.thread ≡ u → IsStored b.act.op → ⊥) a acts not_here none)
    by_this none (inr (same, it)) = inr (record { front = []; asked = a; rest = acts; is_here = refl; by_thread = same; is_asked = it; no_store = none })
