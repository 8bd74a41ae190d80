-- What is known after one more act.
use Rattle.std.proofs.Common.{◌≡◌, ◌≢◌, ◌⊎◌, inl, inr, ℕ, Bool, true, false, ◌||◌, not, nat_eq, List, [], ◌∷◌, ◌++◌, Option}
use Rattle.std.proofs.Common.{Some, None, refl, sym, ◌∙◌, ap, subst, cond, if◌then◌else◌, ne_eqb, eqb-true, eq-eqb}
use Rattle.std.specs.Prelude.{filter}
use Rattle.std.proofs.lemmas.Bool.{false≢true, true≢false}
use Rattle.ap_base.specs.declared.place.Place.{Place}
use Rattle.ap_base.specs.declared.place.Place.TheVariants.{Static, Slot}
use Rattle.graph_model.specs.declared.types.Heap.{Heap}
use Rattle.graph_model.specs.Heaps.{has_number}
use Rattle.run_history.specs.declared.act.Op.{Op}
use Rattle.run_history.specs.declared.act.Op.TheVariants as op
use Rattle.run_history.specs.Recorded.{Recorded}
use Rattle.run_history.specs.Worlds.{after, heap_after_op, depth_of}
use Rattle.run_history.specs.Knowing.{Knowledge, Pending, Unfenced, pending_of, owes_fence, unfenced_at, without_fenced}
use Rattle.run_history.specs.Knowing.{durable_at, is_root, is_single, fate_of, store_fate, is_outermost, after_end}
use Rattle.run_history.specs.Knowing.{known_after_op, next_known, known_after}
use Rattle.plain_model.specs.Codes.{is_persistent}
use Rattle.plain_model.proofs.Durable.{made_durable, durable-known_after_op, world-known_after_op, has_number-append_left}

-- ---- what is pending

abbrev pub without_pending : List Pending → ℕ → List Pending
without_pending ps t = filter (λ (p : Pending). not (nat_eq p.thread t)) ps

pub pending-other : (ps : List Pending) (q : Pending) (u : ℕ) → u ≢ q.thread
    → pending_of (ps ++ q ∷ []) u ≡ pending_of ps u
pending-other [] q u ne = rw (ne_eqb q.thread u (λ e. ne (sym e))) refl
pending-other (p ∷ ps) q u ne =
    elim (nat_eq p.thread u) as (λ b. (if b then Some p else pending_of (ps ++ q ∷ []) u)
    ≡ (if b then Some p else pending_of ps u)) [ true ↦ refl | false ↦ pending-other ps q u ne ]

pub pending-own : (ps : List Pending) (q : Pending) (u : ℕ) → q.thread ≡ u → pending_of ps u ≡ None
    → pending_of (ps ++ q ∷ []) u ≡ Some q
pending-own [] q u same none = rw (eq-eqb q.thread u same) refl
pending-own (p ∷ ps) q u same none =
    elim (nat_eq p.thread u) as (λ b. (if b then Some p else pending_of ps u) ≡ None
    → (if b then Some p else pending_of (ps ++ q ∷ []) u) ≡ Some q) [
      | true ↦ λ e. absurd (let no = e in cc)
      | false ↦ λ e. pending-own ps q u same e
    ] none

pub pending-without : (ps : List Pending) (t u : ℕ) → u ≢ t → pending_of (without_pending ps t) u
    ≡ pending_of ps u
pending-without [] t u ne = refl
pending-without (p ∷ ps) t u ne = elim (nat_eq p.thread t) as (λ b. nat_eq p.thread t ≡ b
    → pending_of (cond (not b) (p ∷ without_pending ps t) (without_pending ps t)) u ≡ pending_of (p ∷ ps) u) [
      | true ↦ λ e.
          let same : p.thread ≡ t = eqb-true p.thread t e in
          let other : nat_eq p.thread u ≡ false = ne_eqb p.thread u (λ k. ne (sym k ∙ same)) in
          rw other (pending-without ps t u ne)
      | false ↦ λ e. elim (nat_eq p.thread u) as
          (λ b. (if b then Some p else pending_of (without_pending ps t) u)
          ≡ (if b then Some p else pending_of ps u)) [ true ↦ refl | false ↦ pending-without ps t u ne ]
    ] refl

pub pending-without_own : (ps : List Pending) (t : ℕ) → pending_of (without_pending ps t) t ≡ None
pending-without_own [] t = refl
pending-without_own (p ∷ ps) t = elim (nat_eq p.thread t) as (λ b. nat_eq p.thread t ≡ b
    → pending_of (cond (not b) (p ∷ without_pending ps t) (without_pending ps t)) t ≡ None) [
      | true ↦ λ e. pending-without_own ps t
      | false ↦ λ e. rw e (pending-without_own ps t)
    ] refl

-- ---- what isn't fenced

pub unfenced-other : (us : List Unfenced) (x : Unfenced) (u : ℕ) → u ≢ x.thread
    → unfenced_at (us ++ x ∷ []) u ≡ unfenced_at us u
unfenced-other [] x u ne = rw (ne_eqb x.thread u (λ e. ne (sym e))) refl
unfenced-other (y ∷ us) x u ne =
    elim (nat_eq y.thread u) as (λ b. (if b then Some y.place else unfenced_at (us ++ x ∷ []) u)
    ≡ (if b then Some y.place else unfenced_at us u)) [ true ↦ refl | false ↦ unfenced-other us x u ne ]

pub unfenced-own : (us : List Unfenced) (x : Unfenced) (u : ℕ) → x.thread ≡ u → unfenced_at us u ≡ None
    → unfenced_at (us ++ x ∷ []) u ≡ Some x.place
unfenced-own [] x u same none = rw (eq-eqb x.thread u same) refl
unfenced-own (y ∷ us) x u same none =
    elim (nat_eq y.thread u) as (λ b. (if b then Some y.place else unfenced_at us u) ≡ None
    → (if b then Some y.place else unfenced_at (us ++ x ∷ []) u) ≡ Some x.place) [
      | true ↦ λ e. absurd (let no = e in cc)
      | false ↦ λ e. unfenced-own us x u same e
    ] none

-- of a list with one more, what isn't fenced of a thread is that of the list, or the new one
pub unfenced-push : (us : List Unfenced) (x : Unfenced) (u : ℕ) (p : Place) → unfenced_at (us ++ x ∷ []) u
    ≡ Some p
    → (unfenced_at us u ≡ Some p) ⊎ (x.place ≡ p)
unfenced-push [] x u p is =
    elim (nat_eq x.thread u) as (λ b. (if b then Some x.place else None) ≡ Some p
    → (None ≡ Some p) ⊎ (x.place ≡ p)) [
      | true ↦ λ e. inr (let it : Some x.place ≡ Some p = e in cc)
      | false ↦ λ e. inl e
    ] is
unfenced-push (y ∷ us) x u p is =
    elim (nat_eq y.thread u) as (λ b. (if b then Some y.place else unfenced_at (us ++ x ∷ []) u) ≡ Some p
    → ((if b then Some y.place else unfenced_at us u) ≡ Some p) ⊎ (x.place ≡ p)) [
      | true ↦ λ e. inl e
      | false ↦ λ e. unfenced-push us x u p e
    ] is

pub unfenced-without : (us : List Unfenced) (t u : ℕ) → u ≢ t
    → unfenced_at (without_fenced us t) u ≡ unfenced_at us u
unfenced-without [] t u ne = refl
unfenced-without (x ∷ us) t u ne = elim (nat_eq x.thread t) as (λ b. nat_eq x.thread t ≡ b
    → unfenced_at (cond (not b) (x ∷ without_fenced us t) (without_fenced us t)) u ≡ unfenced_at (x ∷ us) u) [
      | true ↦ λ e.
          let same : x.thread ≡ t = eqb-true x.thread t e in
          let other : nat_eq x.thread u ≡ false = ne_eqb x.thread u (λ k. ne (sym k ∙ same)) in
          rw other (unfenced-without us t u ne)
      | false ↦ λ e. elim (nat_eq x.thread u) as (λ b. (if b then Some x.place
          else unfenced_at (without_fenced us t) u) ≡ (if b then Some x.place else unfenced_at us u))
          [ true ↦ refl | false ↦ unfenced-without us t u ne ]
    ] refl

pub unfenced-without_own : (us : List Unfenced) (t : ℕ) → unfenced_at (without_fenced us t) t ≡ None
unfenced-without_own [] t = refl
unfenced-without_own (x ∷ us) t = elim (nat_eq x.thread t) as (λ b. nat_eq x.thread t ≡ b
    → unfenced_at (cond (not b) (x ∷ without_fenced us t) (without_fenced us t)) t ≡ None) [
      | true ↦ λ e. unfenced-without_own us t
      | false ↦ λ e. rw e (unfenced-without_own us t)
    ] refl

-- what is left was there
pub unfenced-was : (us : List Unfenced) (t u : ℕ) (p : Place) → unfenced_at (without_fenced us t) u ≡ Some p
    → unfenced_at us u ≡ Some p
unfenced-was us t u p is = elim (nat_eq u t) as (λ b. nat_eq u t ≡ b → unfenced_at us u ≡ Some p) [
  | true ↦ λ e. absurd (let none : unfenced_at (without_fenced us t) u ≡ None
      = subst (λ x. unfenced_at (without_fenced us x) u ≡ None) (eqb-true u t e) (unfenced-without_own us u)
      in cc)
  | false ↦ λ e. sym (unfenced-without us t u (λ same. false≢true (sym e ∙ eq-eqb u t same))) ∙ is
] refl

abbrev is_there : Option Place → Bool
is_there None = false
is_there (Some p) = true

owes_is : (us : List Unfenced) (t : ℕ) → owes_fence us t ≡ is_there (unfenced_at us t)
owes_is [] t = refl
owes_is (x ∷ us) t = elim (nat_eq x.thread t) as (λ b. (b || owes_fence us t)
    ≡ is_there (if b then Some x.place else unfenced_at us t)) [ true ↦ refl | false ↦ owes_is us t ]

pub owes_same : (us vs : List Unfenced) (t : ℕ) → unfenced_at us t ≡ unfenced_at vs t
    → owes_fence us t ≡ owes_fence vs t
owes_same us vs t same = owes_is us t ∙ ap is_there same ∙ sym (owes_is vs t)

pub owes_none : (us : List Unfenced) (t : ℕ) → unfenced_at us t ≡ None → owes_fence us t ≡ false
owes_none us t none = owes_is us t ∙ ap is_there none

pub owes_some : (us : List Unfenced) (t : ℕ) (p : Place) → unfenced_at us t ≡ Some p → owes_fence us t ≡ true
owes_some us t p is = owes_is us t ∙ ap is_there is

none_of : (at : Option Place) → is_there at ≡ false → at ≡ None
none_of None e = refl
none_of (Some p) e = absurd (true≢false e)

pub owes_not : (us : List Unfenced) (t : ℕ) → owes_fence us t ≡ false → unfenced_at us t ≡ None
owes_not us t free = none_of (unfenced_at us t) (sym (owes_is us t) ∙ free)

-- ---- the parts after an act

abbrev pub asked_after : List Pending → ℕ → Op → List Pending
asked_after ps t (op.Asked place value) = ps ++ record { thread = t; place = place; value = value } ∷ []
asked_after ps t (op.Stored place value) = without_pending ps t
asked_after ps t o = ps

abbrev pub stored_unfenced : List Unfenced → ℕ → Place → Bool → List Unfenced
stored_unfenced us t place single = if single then us ++ record { thread = t; place = place } ∷ [] else us

abbrev pub unfenced_after : Knowledge → ℕ → Op → List Unfenced
unfenced_after known t op.Fenced = without_fenced known.unfenced t
unfenced_after known t (op.Stored place value) =
    stored_unfenced known.unfenced t place (is_single (fate_of known t place))
unfenced_after known t o = known.unfenced

asked-end : (known : Knowledge) (t : ℕ) (outermost : Bool) → (after_end known t outermost).asked ≡ known.asked
asked-end known t true = refl
asked-end known t false = refl

unfenced-end : (known : Knowledge) (t : ℕ) (outermost : Bool)
    → (after_end known t outermost).unfenced ≡ known.unfenced
unfenced-end known t true = refl
unfenced-end known t false = refl

asked-op : (known : Knowledge) (t : ℕ) (named : List ℕ) (o : Op)
    → (known_after_op known t named o).asked ≡ asked_after known.asked t o
unfolding known_after_op
asked-op known t named op.End = asked-end known t (is_outermost known t)
asked-op known t named o = refl

unfenced-op : (known : Knowledge) (t : ℕ) (named : List ℕ) (o : Op)
    → (known_after_op known t named o).unfenced ≡ unfenced_after known t o
unfolding known_after_op
unfenced-op known t named op.End = unfenced-end known t (is_outermost known t)
unfenced-op known t named o = refl

module _ (known : Knowledge) (a : Recorded) where
  pub asked-next : (next_known known a).asked ≡ asked_after known.asked a.act.thread a.act.op
  asked-next = asked-op known a.act.thread a.named a.act.op

  pub unfenced-next : (next_known known a).unfenced ≡ unfenced_after known a.act.thread a.act.op
  unfenced-next = unfenced-op known a.act.thread a.named a.act.op

  pub durable-next : (next_known known a).durable ≡ known.durable ++ made_durable a.act.op a.named
  durable-next = durable-known_after_op known a.act.thread a.named a.act.op

roots-op : (heap : Heap) (o : Op) → (heap_after_op heap o).roots ≡ heap.roots
roots-op heap (op.Alloc n shape count) = refl
roots-op heap (op.Throw n class) = refl
roots-op heap (op.Stored (Static n) value) = refl
roots-op heap (op.Stored (Slot n i) value) = refl
roots-op heap o = refl

pub roots-next : (known : Knowledge) (a : Recorded) → (next_known known a).world.heap.roots
    ≡ known.world.heap.roots
roots-next known a =
    ap (λ w. w.heap.roots) (world-known_after_op known a.act.thread a.named a.act.op)
    ∙ by_persistent (is_persistent a.act.op)
  where
    by_persistent : (b : Bool)
        → (if b then known.world else after known.world a.act.thread a.act.op).heap.roots
        ≡ known.world.heap.roots
    by_persistent true = refl
    by_persistent false = roots-op known.world.heap a.act.op

-- ---- other threads

other-asked : (ps : List Pending) (t u : ℕ) (o : Op) → u ≢ t → pending_of (asked_after ps t o) u
    ≡ pending_of ps u
other-asked ps t u (op.Asked place value) ne = pending-other ps
    (record { thread = t; place = place; value = value }) u ne
other-asked ps t u (op.Stored place value) ne = pending-without ps t u ne
other-asked ps t u o ne = refl

other-stored : (us : List Unfenced) (t u : ℕ) (place : Place) (single : Bool) → u ≢ t
    → unfenced_at (stored_unfenced us t place single) u ≡ unfenced_at us u
other-stored us t u place true ne = unfenced-other us (record { thread = t; place = place }) u ne
other-stored us t u place false ne = refl

other-unfenced : (known : Knowledge) (t u : ℕ) (o : Op) → u ≢ t
    → unfenced_at (unfenced_after known t o) u ≡ unfenced_at known.unfenced u
other-unfenced known t u op.Fenced ne = unfenced-without known.unfenced t u ne
other-unfenced known t u (op.Stored place value) ne =
    other-stored known.unfenced t u place (is_single (fate_of known t place)) ne
other-unfenced known t u o ne = refl

-- An act of a thread leaves what was asked and isn't fenced of another one.
module _ (known : Knowledge) (a : Recorded) (u : ℕ) (other : u ≢ a.act.thread) where
  pub pending-kept : pending_of (next_known known a).asked u ≡ pending_of known.asked u
  pending-kept = ap (λ ps. pending_of ps u) (asked-next known a)
      ∙ other-asked known.asked a.act.thread u a.act.op other

  pub unfenced-kept : unfenced_at (next_known known a).unfenced u ≡ unfenced_at known.unfenced u
  unfenced-kept = ap (λ us. unfenced_at us u) (unfenced-next known a)
      ∙ other-unfenced known a.act.thread u a.act.op other

  pub owes-kept : owes_fence (next_known known a).unfenced u ≡ owes_fence known.unfenced u
  owes-kept = owes_same (next_known known a).unfenced known.unfenced u unfenced-kept

-- ---- what isn't fenced is durable

abbrev pub AreDurable : Knowledge → Type 0
AreDurable known = (u : ℕ) (p : Place) → unfenced_at known.unfenced u ≡ Some p → durable_at known p ≡ true

pub durable-kept : (known : Knowledge) (a : Recorded) (p : Place) → durable_at known p ≡ true
    → durable_at (next_known known a) p ≡ true
durable-kept known a (Static n) is = ap (λ roots. is_root roots n) (roots-next known a) ∙ is
durable-kept known a (Slot n i) is =
    ap (λ ns. has_number ns n) (durable-next known a)
    ∙ has_number-append_left known.durable (made_durable a.act.op a.named) n is

single-durable : (t : ℕ) (durable : Bool) (depth : ℕ) (closing : Bool)
    → is_single (store_fate t durable depth closing) ≡ true → durable ≡ true
single-durable t true depth closing e = refl
single-durable t false depth closing e = absurd (false≢true e)

stored-durable : (known : Knowledge) (t u : ℕ) (place p : Place) (single : Bool) → AreDurable known
    → (single ≡ true → durable_at known place ≡ true)
    → unfenced_at (stored_unfenced known.unfenced t place single) u ≡ Some p → durable_at known p ≡ true
stored-durable known t u place p false all here is = all u p is
stored-durable known t u place p true all here is =
    elim (unfenced-push known.unfenced (record { thread = t; place = place }) u p is) [
      | inl before ↦ all u p before
      | inr new ↦ subst (λ x. durable_at known x ≡ true) new (here refl)
    ]

after-durable : (known : Knowledge) (t u : ℕ) (p : Place) (o : Op) → AreDurable known
    → unfenced_at (unfenced_after known t o) u ≡ Some p → durable_at known p ≡ true
after-durable known t u p op.Fenced all is = all u p (unfenced-was known.unfenced t u p is)
after-durable known t u p (op.Stored place value) all is =
    stored-durable known t u place p (is_single (fate_of known t place)) all
    (λ e. single-durable t (durable_at known place) (depth_of known.world t) (has_number known.closing t) e)
    is
after-durable known t u p o all is = all u p is

next-durable : (known : Knowledge) (a : Recorded) → AreDurable known → AreDurable (next_known known a)
next-durable known a all u p is = durable-kept known a p
    (after-durable known a.act.thread u p a.act.op all
    (sym (ap (λ us. unfenced_at us u) (unfenced-next known a)) ∙ is))

pub unfenced-durable : (known : Knowledge) (acts : List Recorded) → AreDurable known
    → AreDurable (known_after known acts)
unfenced-durable known [] all = all
unfenced-durable known (a ∷ acts) all = unfenced-durable (next_known known a) acts (next-durable known a all)
