-- What a place may have, as marks are added and fates change.
use Rattle.std.proofs.Common.{◌≡◌, inl, inr, ℕ, Bool, true, false, List, [], ◌∷◌, ◌++◌, refl, sym, ◌∙◌, ap, nat_eq}
use Rattle.std.proofs.Common.{if◌then◌else◌}
use Rattle.std.specs.List.{AllByRecursion}
use Rattle.std.proofs.lemmas.Bool.{cases_Bool, true≢false, eqb-true}
use Rattle.ap_base.specs.declared.place.Place.{Place}
use Rattle.graph_model.specs.declared.types.Value.{Value}
use Rattle.graph_model.specs.declared.types.Heap.{Heap}
use Rattle.graph_model.specs.Heaps.{value_at}
use Rattle.run_history.specs.declared.act.Op.{Op}
use Rattle.run_history.specs.declared.act.Op.TheVariants as op
use Rattle.run_history.specs.Worlds.{heap_after_op, heap_after, has_place}
use Rattle.run_history.specs.Knowing.{Fate, Sure, Open, Closing, Single, Mark, fenced, closed, ended, each_fate}
use Rattle.run_history.specs.Kept.{survives, kept}
use Rattle.run_history.proofs.KeptLists.{OfEach, each_fate-agree, heap_after-append, kept-append, kept-each_fate, but, but-own}
use Rattle.stop_theorem.specs.Choices.{left_heap, Threads, MayHave, stores_at, is_store, with_thread}
use Rattle.stop_theorem.specs.Orderly.{ops_of_marks, is_single_of, NoSingleOf, LosesStores, NoSingleAt, is_open_of, NotOpen}
use Rattle.run_history.proofs.Sizes.{sizes_refl, sizes_sym, sizes_trans, sizes_op, same_has, stored-sizes, value_stored}
use Rattle.run_history.proofs.Sizes.{value_fresh}
use Rattle.stop_theorem.proofs.Agree.{ChoicesAgree, left_same, whole_same}
use Rattle.run_history.specs.Sizes.{SameSizes}

-- ---- sizes

skip_sizes : (o : Op) (h : Heap) → is_store o ≡ true → SameSizes h (heap_after_op h o)
skip_sizes (op.Stored q x) h is = stored-sizes h q x
skip_sizes o h is = absurd (true≢false (sym is))

kept_sizes : (r s : ℕ → Bool) (ms : List Mark) → AllByRecursion LosesStores ms → (h k : Heap) → SameSizes h k
    → SameSizes (heap_after h (ops_of_marks ms)) (left_heap k ms r s)
kept_sizes r s [] lost h k same = same
kept_sizes r s (m ∷ ms) lost h k same =
    let Same : Bool → Type 0 = λ b. SameSizes (heap_after (heap_after_op h m.op) (ops_of_marks ms))
    (heap_after k (if b then m.op ∷ kept r s ms else kept r s ms)) in
    elim (survives r s m.fate) as (λ b. survives r s m.fate ≡ b → Same b) [
      | true ↦ λ e. kept_sizes r s ms lost.1 (heap_after_op h m.op) (heap_after_op k m.op)
          (sizes_op m.op h k same)
      | false ↦ λ e. kept_sizes r s ms lost.1 (heap_after_op h m.op) k
          (sizes_trans (sizes_sym (skip_sizes m.op h (dropped e))) same)
    ] refl
  where
    dropped : survives r s m.fate ≡ false → is_store m.op ≡ true
    dropped e = elim (cases_Bool (is_store m.op)) [
      | inl is ↦ is
      | inr isnt ↦ absurd (true≢false (sym
          (let sure : survives r s m.fate ≡ true = rw (lost.0 isnt) refl in sure) ∙ e))
    ]

-- what is left has the sizes of the whole heap
pub left_sizes : (first : Heap) (r s : ℕ → Bool) (ms : List Mark) → AllByRecursion LosesStores ms
    → SameSizes (heap_after first (ops_of_marks ms)) (left_heap first ms r s)
left_sizes first r s ms lost = kept_sizes r s ms lost first first (sizes_refl first)

-- ---- one more mark

pub left_more : (first : Heap) (ms : List Mark) (m : Mark) (r s : ℕ → Bool)
    → left_heap first (ms ++ m ∷ []) r s ≡ (if survives r s m.fate then heap_after_op
    (left_heap first ms r s) m.op else left_heap first ms r s)
left_more first ms m r s =
    ap (heap_after first) (kept-append r s ms (m ∷ []))
    ∙ heap_after-append first (kept r s ms) (kept r s (m ∷ []))
    ∙ elim (survives r s m.fate) as (λ b. heap_after (left_heap first ms r s)
    (if b then m.op ∷ [] else []) ≡ (if b then heap_after_op
    (left_heap first ms r s) m.op else left_heap first ms r s)) [ true ↦ refl | false ↦ refl ]

-- an operation that isn't a store there
pub value_op : (p : Place) (o : Op) (h : Heap) → has_place h p ≡ true → stores_at p o ≡ false
    → value_at (heap_after_op h o) p ≡ value_at h p
value_op p (op.Alloc n shape count) h is other = value_fresh p h shape count is
value_op p (op.Throw n class) h is other = value_fresh p h class 0 is
value_op p (op.Stored q x) h is other = value_stored h q p x ∙ rw other refl
value_op p o h is other = refl

module _ (first : Heap) (ms : List Mark) (r : ℕ → Bool) (K : Threads) (p : Place) (v : Value) where
  -- an act elsewhere, whether it may be lost or not
  pub having_elsewhere : (fate : Fate) (o : Op) → AllByRecursion LosesStores ms
      → has_place (heap_after first (ops_of_marks ms)) p ≡ true → stores_at p o ≡ false
      → MayHave first ms r K p v → MayHave first (ms ++ record { fate = fate; op = o } ∷ []) r K p v
  having_elsewhere fate o lost is other h =
      let left = left_heap first ms r h.singles in
      let is_there : has_place left p ≡ true =
      same_has (heap_after first (ops_of_marks ms)) left p (left_sizes first r h.singles ms lost) ∙ is in
      record {
        singles = h.singles;
        keeps = h.keeps;
        is = h.is ∙ sym (ap (λ (k : Heap). value_at k p)
            (left_more first ms (record { fate = fate; op = o }) r h.singles)
            ∙ elim (survives r h.singles fate) as (λ b. value_at
            (if b then heap_after_op left o else left) p ≡ value_at left p) [
              | true ↦
                  value_op p o left is_there other
              | false ↦ refl
            ]);
      }

  -- a store of an open region is dropped
  pub having_open : (t : ℕ) (o : Op) → MayHave first ms r K p v
      → MayHave first (ms ++ record { fate = Open t; op = o } ∷ []) r K p v
  having_open t o h = record {
    singles = h.singles;
    keeps = h.keeps;
    is = h.is ∙ sym (ap (λ (k : Heap). value_at k p)
        (left_more first ms (record { fate = Open t; op = o }) r h.singles));
  }

  -- fewer threads need be kept
  pub having_fewer : (K' : Threads) → ((t : ℕ) → K' t ≡ true → K t ≡ true) → MayHave first ms r K p v
      → MayHave first ms r K' p v
  having_fewer K' fewer h = record { singles = h.singles; keeps = λ t is. h.keeps t (fewer t is); is = h.is }

no_single : (t : ℕ) (b : Bool) (r s : ℕ → Bool) (fate : Fate) → is_single_of t fate ≡ false
    → survives r s fate ≡ survives r (but t b s) fate
no_single t b r s Sure none = refl
no_single t b r s (Open u) none = refl
no_single t b r s (Closing u) none = refl
no_single t b r s (Single u) none = rw none refl

single_elsewhere : (p : Place) (t : ℕ) (b : Bool) (r s : ℕ → Bool) (ms : List Mark) → NoSingleAt p t ms
    → AllByRecursion (ChoicesAgree p r (but t b s) r s) ms
single_elsewhere p t b r s [] none = tt
single_elsewhere p t b r s (m ∷ ms) none =
    (λ is. sym (no_single t b r s m.fate (none.0 is)), single_elsewhere p t b r s ms none.1)

none_at : (p : Place) (t : ℕ) (ms : List Mark) → NoSingleOf t ms → NoSingleAt p t ms
none_at p t [] none = tt
none_at p t (m ∷ ms) none = (λ is. none.0, none_at p t ms none.1)

but_true : (t : ℕ) (s : ℕ → Bool) (u : ℕ) → s u ≡ true → but t true s u ≡ true
but_true t s u is = elim (nat_eq u t) as (λ b. (if b then true else s u) ≡ true) [ true ↦ refl | false ↦ is ]

but_with : (t : ℕ) (K : Threads) (s : ℕ → Bool) (u : ℕ) → (K u ≡ true → s u ≡ true) → with_thread t K u ≡ true
    → but t true s u ≡ true
but_with t K s u keeps = elim (nat_eq u t) as (λ b. (if b then true else K u) ≡ true
    → (if b then true else s u) ≡ true) [ true ↦ λ e. refl | false ↦ keeps ]

-- the choice of a thread that has no single store there is free
pub having_with : (first : Heap) (ms : List Mark) (r : ℕ → Bool) (K : Threads) (p : Place) (v : Value) (t : ℕ)
    → AllByRecursion LosesStores ms
    → NoSingleAt p t ms → MayHave first ms r K p v → MayHave first ms r (with_thread t K) p v
having_with first ms r K p v t lost none h = record {
  singles = but t true h.singles;
  keeps = λ u is. but_with t K h.singles u (h.keeps u) is;
  is = h.is ∙ (left_same p r (but t true h.singles) r h.singles ms lost
      (single_elsewhere p t true r h.singles ms none) first).value;
}

-- a further single store is dropped, where the thread had none
pub having_single : (first : Heap) (ms : List Mark) (r : ℕ → Bool) (K : Threads) (p : Place) (v : Value)
    (t : ℕ) (o : Op) → AllByRecursion LosesStores ms
    → NoSingleOf t ms → K t ≡ false → MayHave first ms r K p v
    → MayHave first (ms ++ record { fate = Single t; op = o } ∷ []) r K p v
having_single first ms r K p v t o lost none free h =
    let s = but t false h.singles in
    record {
      singles = s;
      keeps = λ u is. but_not u is (h.keeps u is);
      is = h.is ∙ (left_same p r s r h.singles ms lost
          (single_elsewhere p t false r h.singles ms (none_at p t ms none)) first).value
          ∙ sym (ap (λ (k : Heap). value_at k p) (left_more first ms (record { fate = Single t; op = o }) r s)
          ∙ ap (λ b. value_at (if b then heap_after_op
          (left_heap first ms r s) o else left_heap first ms r s) p) (but-own t false h.singles));
    }
  where
    but_not : (u : ℕ) → K u ≡ true → h.singles u ≡ true → but t false h.singles u ≡ true
    but_not u is one = elim (nat_eq u t) as (λ b. nat_eq u t ≡ b
        → (if b then false else h.singles u) ≡ true) [
          | true ↦ λ e. absurd (true≢false (sym (ap K (sym (eqb-true u t e)) ∙ is) ∙ free))
          | false ↦ λ e. one
        ] refl

-- all is kept there
abbrev all_singles : ℕ → Bool
all_singles t = true

-- the whole heap's value, where each store there may be kept
pub having_whole : (first : Heap) (ms : List Mark) (r : ℕ → Bool) (K : Threads) (p : Place)
    → AllByRecursion LosesStores ms
    → AllByRecursion (λ (m : Mark). stores_at p m.op ≡ true → survives r (λ t. true) m.fate ≡ true) ms
    → MayHave first ms r K p (value_at (heap_after first (ops_of_marks ms)) p)
having_whole first ms r K p lost keeps = record {
  singles = λ t. true;
  keeps = λ t is. refl;
  is = (whole_same p r (λ t. true) ms lost keeps first).value;
}

-- ---- fates

fenced_survives : (t : ℕ) (r s : ℕ → Bool) → s t ≡ true → (fate : Fate)
    → survives r s (fenced t fate) ≡ survives r s fate
fenced_survives t r s is Sure = refl
fenced_survives t r s is (Open u) = refl
fenced_survives t r s is (Closing u) = refl
fenced_survives t r s is (Single u) =
    elim (nat_eq u t) as (λ b. nat_eq u t ≡ b → survives r s (if b then Sure else Single u) ≡ s u) [
      | true ↦ λ e. sym (ap s (eqb-true u t e) ∙ is)
      | false ↦ λ e. refl
    ] refl

closed_survives : (t : ℕ) (r s : ℕ → Bool) → r t ≡ false → (fate : Fate)
    → survives r s (closed t fate) ≡ survives r s fate
closed_survives t r s is Sure = refl
closed_survives t r s is (Open u) =
    elim (nat_eq u t) as (λ b. nat_eq u t ≡ b → survives r s (if b then Closing u else Open u) ≡ false) [
      | true ↦ λ e. ap r (eqb-true u t e) ∙ is
      | false ↦ λ e. refl
    ] refl
closed_survives t r s is (Closing u) = refl
closed_survives t r s is (Single u) = refl

module _ (first : Heap) (ms : List Mark) (r : ℕ → Bool) (K : Threads) (p : Place) (v : Value) (t : ℕ) where
  -- a fence of a thread whose single stores are kept
  pub having_fenced : K t ≡ true → MayHave first ms r K p v → MayHave first (each_fate (fenced t) ms) r K p v
  having_fenced is h = record {
    singles = h.singles;
    keeps = h.keeps;
    is = h.is ∙ ap (λ ops. value_at (heap_after first ops) p)
        (sym (kept-each_fate r h.singles (fenced t) r h.singles
        (fenced_survives t r h.singles (h.keeps t is)) ms));
  }

  -- a region becomes closing while its log counts entries
  pub having_closed : r t ≡ false → MayHave first ms r K p v → MayHave first (each_fate (closed t) ms) r K p v
  having_closed is h = record {
    singles = h.singles;
    keeps = h.keeps;
    is = h.is ∙ ap (λ ops. value_at (heap_after first ops) p)
        (sym (kept-each_fate r h.singles (closed t) r h.singles (closed_survives t r h.singles is) ms));
  }

-- a closing region ends, where it is kept
settle : ℕ → Fate → Fate
settle t (Closing u) = if nat_eq u t then Sure else Closing u
settle t fate = fate

ended_settles : (t : ℕ) (fate : Fate) → is_open_of t fate ≡ false → ended t fate ≡ settle t fate
unfolding settle
ended_settles t Sure not_open = refl
ended_settles t (Open u) not_open = rw not_open refl
ended_settles t (Closing u) not_open = refl
ended_settles t (Single u) not_open = refl

settled_survives : (t : ℕ) (r s : ℕ → Bool) → r t ≡ true → (fate : Fate)
    → survives r s (settle t fate) ≡ survives r s fate
unfolding settle
settled_survives t r s is Sure = refl
settled_survives t r s is (Open u) = refl
settled_survives t r s is (Closing u) =
    elim (nat_eq u t) as (λ b. nat_eq u t ≡ b → survives r s (if b then Sure else Closing u) ≡ r u) [
      | true ↦ λ e. sym (ap r (eqb-true u t e) ∙ is)
      | false ↦ λ e. refl
    ] refl
settled_survives t r s is (Single u) = refl

pub having_ended : (first : Heap) (ms : List Mark) (r : ℕ → Bool) (K : Threads) (p : Place) (v : Value)
    (t : ℕ) → r t ≡ true → OfEach (NotOpen t) ms
    → MayHave first ms r K p v → MayHave first (each_fate (ended t) ms) r K p v
having_ended first ms r K p v t is none h = record {
  singles = h.singles;
  keeps = h.keeps;
  is = h.is ∙ ap (λ ops. value_at (heap_after first ops) p)
      (sym (ap (λ marks. kept r h.singles marks)
      (each_fate-agree (ended t) (settle t) (NotOpen t) (ended_settles t) ms none)
      ∙ kept-each_fate r h.singles (settle t) r h.singles (settled_survives t r h.singles is) ms));
}
