-- What is known as acts are added: what holds at first and is kept by each act, and two such facts about the marks. A
-- thread that owes no fence has no single store, and one whose region is closing has no store of an open region.
use Rattle.std.proofs.Common.{◌≡◌, ℕ, zero, suc, Bool, true, false, List, [], ◌∷◌, ◌++◌, refl, ap, sym, ◌∙◌, cond, nat_eq}
use Rattle.std.proofs.Common.{if◌then◌else◌, ◌||◌, not, arith}
use Rattle.std.proofs.lemmas.Bool.{eqb-true, or_parts}
use Rattle.ap_base.specs.declared.place.Place.{Place}
use Rattle.graph_model.specs.Heaps.{has_number}
use Rattle.run_history.specs.declared.act.Op.{Op}
use Rattle.run_history.specs.declared.act.Op.TheVariants as op
use Rattle.run_history.specs.Recorded.{Recorded}
use Rattle.run_history.specs.Worlds.{depth_of}
use Rattle.run_history.specs.Knowing.{Fate, Sure, Open, Closing, Single, Mark, Knowledge, known_at_first, known_after}
use Rattle.run_history.specs.Knowing.{known_after_op, next_known, fenced, closed, ended, each_fate, with_sure, fate_of}
use Rattle.run_history.specs.Knowing.{store_fate, durable_at, is_outermost, is_single, without_number, Unfenced, owes_fence}
use Rattle.run_history.specs.Knowing.{without_fenced, after_end}
use Rattle.run_history.specs.Laws.{Past, further, known_in, marks_in}
use Rattle.run_history.proofs.KeptLists.{OfEach, Any, OfEach-any, OfEach-more, OfEach-each_fate}

-- what is known after one more act
pub known_after-append : (known : Knowledge) (acts : List Recorded) (a : Recorded)
    → known_after known (acts ++ a ∷ []) ≡ next_known (known_after known acts) a
known_after-append known [] a = refl
known_after-append known (b ∷ acts) a = known_after-append (next_known known b) acts a

-- the marks after one more act
pub marks-further : (past : Past) (t at : ℕ) (o : Op)
    → marks_in (further past t at o) ≡ (known_after_op (known_in past) t [] o).marks
marks-further past t at o =
    let act : Recorded = record { act = record { thread = t; at = at; op = o }; named = [] } in
    ap (λ k. k.marks) (known_after-append (known_at_first past.world past.durable) past.acts act)

-- what each act keeps is so after all acts
pub known_after-keeps : (P : Knowledge → Type 0) → ((known : Knowledge) (a : Recorded) → P known → P (next_known known a))
    → (known : Knowledge) (acts : List Recorded) → P known → P (known_after known acts)
known_after-keeps P keeps known [] holds = holds
known_after-keeps P keeps known (a ∷ acts) holds =
    known_after-keeps P keeps (next_known known a) acts (keeps known a holds)

-- Lists of threads.
pub has_number-without : (ns : List ℕ) (t u : ℕ) → nat_eq u t ≡ false → has_number (without_number ns t) u ≡ has_number ns u
has_number-without [] t u d = refl
has_number-without (n ∷ ns) t u d =
    let Same : Bool → Type 0 = λ b.
    has_number (cond (not b) (n ∷ without_number ns t) (without_number ns t)) u ≡ (nat_eq n u || has_number ns u) in
    elim (nat_eq n t) as (λ b. nat_eq n t ≡ b → Same b) [
      | true ↦ λ e.
          let same : n ≡ t = eqb-true n t e in
          let other : nat_eq n u ≡ false = grind (arith, same, d) in
          rw other (has_number-without ns t u d)
      | false ↦ λ e. ap (λ b. nat_eq n u || b) (has_number-without ns t u d)
    ] refl

has_number-without_own : (ns : List ℕ) (t : ℕ) → has_number (without_number ns t) t ≡ false
has_number-without_own [] t = refl
has_number-without_own (n ∷ ns) t =
    let Gone : Bool → Type 0 = λ b. has_number (cond (not b) (n ∷ without_number ns t) (without_number ns t)) t ≡ false in
    elim (nat_eq n t) as (λ b. nat_eq n t ≡ b → Gone b) [
      | true ↦ λ e. has_number-without_own ns t
      | false ↦ λ e. rw e (has_number-without_own ns t)
    ] refl

-- Stores that aren't fenced: another thread's fence leaves them.
pub owes_fence-without : (us : List Unfenced) (t u : ℕ) → nat_eq u t ≡ false → owes_fence (without_fenced us t) u ≡ owes_fence us u
owes_fence-without [] t u d = refl
owes_fence-without (n ∷ us) t u d =
    let Same : Bool → Type 0 = λ b.
    owes_fence (cond (not b) (n ∷ without_fenced us t) (without_fenced us t)) u ≡ (nat_eq n.thread u || owes_fence us u) in
    elim (nat_eq n.thread t) as (λ b. nat_eq n.thread t ≡ b → Same b) [
      | true ↦ λ e.
          let same : n.thread ≡ t = eqb-true n.thread t e in
          let other : nat_eq n.thread u ≡ false = grind (arith, same, d) in
          rw other (owes_fence-without us t u d)
      | false ↦ λ e. ap (λ b. nat_eq n.thread u || b) (owes_fence-without us t u d)
    ] refl

-- a thread that owes no fence once a store was added owed none before, and the store isn't its own
pub owes_fence-neither : (us : List Unfenced) (new : Unfenced) (u : ℕ)
    → owes_fence (us ++ new ∷ []) u ≡ false → (owes_fence us u ≡ false) × (nat_eq new.thread u ≡ false)
owes_fence-neither [] new u h = (refl, (or_parts (nat_eq new.thread u) false h).0)
owes_fence-neither (n ∷ us) new u h =
    let parts = or_parts (nat_eq n.thread u) (owes_fence (us ++ new ∷ []) u) h in
    let rest = owes_fence-neither us new u parts.1 in
    (rw parts.0 rest.0, rest.1)

-- a number other than the new one is in the longer list where it is in the list
has_number-other : (ns : List ℕ) (t u : ℕ) → nat_eq t u ≡ false → has_number (ns ++ t ∷ []) u ≡ has_number ns u
has_number-other [] t u d = rw d refl
has_number-other (n ∷ ns) t u d = ap (λ b. nat_eq n u || b) (has_number-other ns t u d)

-- Fates: whether one is that of a single store of thread t, or of a store of its open region.
abbrev pub is_single_of : ℕ → Fate → Bool
is_single_of t (Single u) = nat_eq u t
is_single_of t _ = false

abbrev pub is_open_of : ℕ → Fate → Bool
is_open_of t (Open u) = nat_eq u t
is_open_of t _ = false

abbrev pub NoSingle : ℕ → Fate → Type 0
NoSingle t fate = is_single_of t fate ≡ false

abbrev pub NotOpen : ℕ → Fate → Type 0
NotOpen t fate = is_open_of t fate ≡ false

-- a choice of two fates has what both have, and the second may rest on the test
pub unless : (P : Fate → Type 0) (b : Bool) (x y : Fate) → P x → (b ≡ false → P y) → P (if b then x else y)
unless P true x y this that = this
unless P false x y this that = that refl

either : (P : Fate → Type 0) (b : Bool) (x y : Fate) → P x → P y → P (if b then x else y)
either P b x y this that = unless P b x y this (λ _. that)

fenced-no_single : (u t : ℕ) (fate : Fate) → NoSingle t fate → NoSingle t (fenced u fate)
fenced-no_single u t Sure h = refl
fenced-no_single u t (Open v) h = refl
fenced-no_single u t (Closing v) h = refl
fenced-no_single u t (Single v) h = either (NoSingle t) (nat_eq v u) Sure (Single v) refl h

closed-no_single : (u t : ℕ) (fate : Fate) → NoSingle t fate → NoSingle t (closed u fate)
closed-no_single u t Sure h = refl
closed-no_single u t (Open v) h = either (NoSingle t) (nat_eq v u) (Closing v) (Open v) refl refl
closed-no_single u t (Closing v) h = refl
closed-no_single u t (Single v) h = h

ended-no_single : (u t : ℕ) (fate : Fate) → NoSingle t fate → NoSingle t (ended u fate)
ended-no_single u t Sure h = refl
ended-no_single u t (Open v) h = either (NoSingle t) (nat_eq v u) Sure (Open v) refl refl
ended-no_single u t (Closing v) h = either (NoSingle t) (nat_eq v u) Sure (Closing v) refl refl
ended-no_single u t (Single v) h = h

-- after its fence a thread has no single store
pub fenced-own : (t : ℕ) (fate : Fate) → NoSingle t (fenced t fate)
fenced-own t Sure = refl
fenced-own t (Open v) = refl
fenced-own t (Closing v) = refl
fenced-own t (Single v) = unless (NoSingle t) (nat_eq v t) Sure (Single v) refl (λ h. h)

fenced-not_open : (u t : ℕ) (fate : Fate) → NotOpen t fate → NotOpen t (fenced u fate)
fenced-not_open u t Sure h = refl
fenced-not_open u t (Open v) h = h
fenced-not_open u t (Closing v) h = refl
fenced-not_open u t (Single v) h = either (NotOpen t) (nat_eq v u) Sure (Single v) refl refl

closed-not_open : (u t : ℕ) (fate : Fate) → NotOpen t fate → NotOpen t (closed u fate)
closed-not_open u t Sure h = refl
closed-not_open u t (Open v) h = either (NotOpen t) (nat_eq v u) (Closing v) (Open v) refl h
closed-not_open u t (Closing v) h = refl
closed-not_open u t (Single v) h = refl

ended-not_open : (u t : ℕ) (fate : Fate) → NotOpen t fate → NotOpen t (ended u fate)
ended-not_open u t Sure h = refl
ended-not_open u t (Open v) h = either (NotOpen t) (nat_eq v u) Sure (Open v) refl h
ended-not_open u t (Closing v) h = either (NotOpen t) (nat_eq v u) Sure (Closing v) refl refl
ended-not_open u t (Single v) h = refl

-- once its region is closing a thread has no store of an open one
closed-own : (t : ℕ) (fate : Fate) → NotOpen t (closed t fate)
closed-own t Sure = refl
closed-own t (Open v) = unless (NotOpen t) (nat_eq v t) (Closing v) (Open v) refl (λ h. h)
closed-own t (Closing v) = refl
closed-own t (Single v) = refl

-- a single store is the storing thread's
pub store_fate-single : (t : ℕ) (durable : Bool) (depth : ℕ) (is_closing : Bool)
    → is_single (store_fate t durable depth is_closing) ≡ true → store_fate t durable depth is_closing ≡ Single t
store_fate-single t false depth is_closing h = absurd (let e : false ≡ true = h in cc)
store_fate-single t true zero is_closing h = refl
store_fate-single t true (suc depth) true h = absurd (let e : false ≡ true = h in cc)
store_fate-single t true (suc depth) false h = absurd (let e : false ≡ true = h in cc)

-- a store of a thread whose region is closing is not one of an open region, and nor is another thread's
store_fate-not_open : (t u : ℕ) (durable : Bool) (depth : ℕ) (is_closing : Bool)
    → (nat_eq t u ≡ true → is_closing ≡ true) → NotOpen u (store_fate t durable depth is_closing)
store_fate-not_open t u false depth is_closing own = refl
store_fate-not_open t u true zero is_closing own = refl
store_fate-not_open t u true (suc depth) true own = refl
store_fate-not_open t u true (suc depth) false own =
    elim (nat_eq t u) as (λ b. nat_eq t u ≡ b → b ≡ false) [
      | true ↦ λ e. absurd (let c : false ≡ true = own e in cc)
      | false ↦ λ e. refl
    ] refl

-- a change of the fates that keeps a fact about them, and a further act that is sure
OfEach-with_sure : (P : Fate → Type 0) (f : Fate → Fate) → ((fate : Fate) → P fate → P (f fate)) → P Sure
    → (ms : List Mark) (o : Op) → OfEach P ms → OfEach P (with_sure (each_fate f ms) o)
OfEach-with_sure P f keeps sure ms o all = OfEach-more P (each_fate f ms) Sure o (OfEach-each_fate P P f keeps ms all) sure

-- A thread that owes no fence has no single store.
abbrev pub OwesForSingles : Knowledge → Type 0
OwesForSingles known = (t : ℕ) → owes_fence known.unfenced t ≡ false → OfEach (NoSingle t) known.marks

owes-stored : (known : Knowledge) (t : ℕ) (place : Place) (o : Op) (fate : Fate) → (is_single fate ≡ true → fate ≡ Single t)
    → OwesForSingles known → (u : ℕ)
    → owes_fence (if is_single fate then known.unfenced ++ record { thread = t; place = place } ∷ [] else known.unfenced) u ≡ false
    → OfEach (NoSingle u) (known.marks ++ record { fate = fate; op = o } ∷ [])
owes-stored known t place o Sure own owes u h = OfEach-more (NoSingle u) known.marks Sure o (owes u h) refl
owes-stored known t place o (Open v) own owes u h = OfEach-more (NoSingle u) known.marks (Open v) o (owes u h) refl
owes-stored known t place o (Closing v) own owes u h = OfEach-more (NoSingle u) known.marks (Closing v) o (owes u h) refl
owes-stored known t place o (Single v) own owes u h =
    let neither = owes_fence-neither known.unfenced (record { thread = t; place = place }) u h in
    rw (own refl) (OfEach-more (NoSingle u) known.marks (Single t) o (owes u neither.0) neither.1)

owes-fenced : (known : Knowledge) (t : ℕ) → OwesForSingles known → (u : ℕ)
    → owes_fence (without_fenced known.unfenced t) u ≡ false → OfEach (NoSingle u) (each_fate (fenced t) known.marks)
owes-fenced known t owes u h =
    let own = OfEach-each_fate Any (NoSingle t) (fenced t) (λ fate _. fenced-own t fate) known.marks (OfEach-any known.marks) in
    elim (nat_eq u t) as (λ b. nat_eq u t ≡ b → OfEach (NoSingle u) (each_fate (fenced t) known.marks)) [
      | true ↦ λ e. rw (eqb-true u t e) own
      | false ↦ λ e.
          let owed = owes u (sym (owes_fence-without known.unfenced t u e) ∙ h) in
          OfEach-each_fate (NoSingle u) (NoSingle u) (fenced t) (fenced-no_single t u) known.marks owed
    ] refl

owes-end : (known : Knowledge) (t : ℕ) (b : Bool) → OwesForSingles known → OwesForSingles (after_end known t b)
owes-end known t true owes u h =
    OfEach-with_sure (NoSingle u) (ended t) (ended-no_single t u) refl known.marks op.End (owes u h)
owes-end known t false owes u h = OfEach-more (NoSingle u) known.marks Sure op.End (owes u h) refl

owes-op : (known : Knowledge) (t : ℕ) (named : List ℕ) (o : Op)
    → OwesForSingles known → OwesForSingles (known_after_op known t named o)
unfolding known_after_op
owes-op known t named op.Closing owes u h =
    OfEach-with_sure (NoSingle u) (closed t) (closed-no_single t u) refl known.marks op.Closing (owes u h)
owes-op known t named op.Fenced owes u h =
    OfEach-more (NoSingle u) (each_fate (fenced t) known.marks) Sure op.Fenced (owes-fenced known t owes u h) refl
owes-op known t named (op.Stored place value) owes u h =
    let own = store_fate-single t (durable_at known place) (depth_of known.world t) (has_number known.closing t) in
    owes-stored known t place (op.Stored place value) (fate_of known t place) own owes u h
owes-op known t named op.End owes u h = owes-end known t (is_outermost known t) owes u h
owes-op known t named o owes u h = OfEach-more (NoSingle u) known.marks Sure o (owes u h) refl

pub owes_for_singles : (past : Past) → OwesForSingles (known_in past)
owes_for_singles past =
    known_after-keeps OwesForSingles (λ known a. owes-op known a.act.thread a.named a.act.op)
    (known_at_first past.world past.durable) past.acts (λ t h. tt)

-- A thread whose region is closing has no store of an open one.
abbrev pub ClosingIsNotOpen : Knowledge → Type 0
ClosingIsNotOpen known = (t : ℕ) → has_number known.closing t ≡ true → OfEach (NotOpen t) known.marks

not_open-closing : (known : Knowledge) (t : ℕ) → ClosingIsNotOpen known → (u : ℕ)
    → has_number (known.closing ++ t ∷ []) u ≡ true → OfEach (NotOpen u) (each_fate (closed t) known.marks)
not_open-closing known t not_open u h =
    let own = OfEach-each_fate Any (NotOpen t) (closed t) (λ fate _. closed-own t fate) known.marks (OfEach-any known.marks) in
    elim (nat_eq t u) as (λ b. nat_eq t u ≡ b → OfEach (NotOpen u) (each_fate (closed t) known.marks)) [
      | true ↦ λ e. rw (sym (eqb-true t u e)) own
      | false ↦ λ e.
          let earlier = not_open u (sym (has_number-other known.closing t u e) ∙ h) in
          OfEach-each_fate (NotOpen u) (NotOpen u) (closed t) (closed-not_open t u) known.marks earlier
    ] refl

-- a thread other than the one whose region has ended is closing if it was
still_closing : (ns : List ℕ) (t u : ℕ) → has_number (without_number ns t) u ≡ true → has_number ns u ≡ true
still_closing ns t u h =
    elim (nat_eq u t) as (λ b. nat_eq u t ≡ b → has_number ns u ≡ true) [
      | true ↦ λ e.
          let gone : has_number (without_number ns t) u ≡ false = rw (eqb-true u t e) (has_number-without_own ns t) in
          absurd (let c : false ≡ true = sym gone ∙ h in cc)
      | false ↦ λ e. sym (has_number-without ns t u e) ∙ h
    ] refl

not_open-end : (known : Knowledge) (t : ℕ) (b : Bool) → ClosingIsNotOpen known → ClosingIsNotOpen (after_end known t b)
not_open-end known t true not_open u h =
    OfEach-with_sure (NotOpen u) (ended t) (ended-not_open t u) refl known.marks op.End
    (not_open u (still_closing known.closing t u h))
not_open-end known t false not_open u h = OfEach-more (NotOpen u) known.marks Sure op.End (not_open u h) refl

not_open-op : (known : Knowledge) (t : ℕ) (named : List ℕ) (o : Op)
    → ClosingIsNotOpen known → ClosingIsNotOpen (known_after_op known t named o)
unfolding known_after_op
not_open-op known t named op.Closing not_open u h =
    OfEach-more (NotOpen u) (each_fate (closed t) known.marks) Sure op.Closing (not_open-closing known t not_open u h) refl
not_open-op known t named op.Fenced not_open u h =
    OfEach-with_sure (NotOpen u) (fenced t) (fenced-not_open t u) refl known.marks op.Fenced (not_open u h)
not_open-op known t named (op.Stored place value) not_open u h =
    let not_own = store_fate-not_open t u (durable_at known place) (depth_of known.world t) (has_number known.closing t)
    (λ e. ap (has_number known.closing) (eqb-true t u e) ∙ h) in
    OfEach-more (NotOpen u) known.marks (fate_of known t place) (op.Stored place value) (not_open u h) not_own
not_open-op known t named op.End not_open u h = not_open-end known t (is_outermost known t) not_open u h
not_open-op known t named o not_open u h = OfEach-more (NotOpen u) known.marks Sure o (not_open u h) refl

pub closing_is_not_open : (past : Past) → ClosingIsNotOpen (known_in past)
closing_is_not_open past =
    known_after-keeps ClosingIsNotOpen (λ known a. not_open-op known a.act.thread a.named a.act.op)
    (known_at_first past.world past.durable) past.acts (λ t h. tt)
