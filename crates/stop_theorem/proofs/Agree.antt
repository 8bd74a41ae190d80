-- Kept lists that agree about the stores at a place leave the same there.
use Rattle.std.proofs.Common.{◌≡◌, inl, inr, ℕ, Bool, true, false, List, [], ◌∷◌, refl, sym, ◌∙◌, ap, if◌then◌else◌}
use Rattle.std.specs.List.{AllByRecursion}
use Rattle.std.proofs.lemmas.Bool.{cases_Bool, true≢false}
use Rattle.ap_base.specs.declared.place.Place.{Place}
use Rattle.graph_model.specs.declared.types.Heap.{Heap}
use Rattle.run_history.specs.declared.act.Op.{Op}
use Rattle.run_history.specs.declared.act.Op.TheVariants as op
use Rattle.run_history.specs.Worlds.{heap_after_op, heap_after}
use Rattle.run_history.specs.Knowing.{Fate, Sure, Mark}
use Rattle.run_history.specs.Kept.{survives, kept}
use Rattle.stop_theorem.specs.Choices.{left_heap, stores_at, is_store}
use Rattle.stop_theorem.specs.Orderly.{ops_of_marks, LosesStores}
use Rattle.run_history.proofs.Sizes.{SameAt, same_refl, same_sym, same_trans, same_op, same_elsewhere}

-- the operations of the marks that a test takes
abbrev pub pick : (Mark → Bool) → List Mark → List Op
pick k [] = []
pick k (m ∷ ms) = if k m then m.op ∷ pick k ms else pick k ms

pub kept-pick : (r s : ℕ → Bool) (ms : List Mark) → kept r s ms ≡ pick (λ m. survives r s m.fate) ms
kept-pick r s [] = refl
kept-pick r s (m ∷ ms) = rw (kept-pick r s ms) refl

pub ops-pick : (ms : List Mark) → ops_of_marks ms ≡ pick (λ m. true) ms
ops-pick [] = refl
ops-pick (m ∷ ms) = ap (λ xs. m.op ∷ xs) (ops-pick ms)

-- two tests agree about a mark, so far as the place goes
pub record Agrees (p : Place) (k l : Mark → Bool) (m : Mark) : Type 0 where
  pub here : stores_at p m.op ≡ true → k m ≡ l m
  pub sure : is_store m.op ≡ false → (k m ≡ true) × (l m ≡ true)

-- a store elsewhere
skipped : (p : Place) (o : Op) (h : Heap) → is_store o ≡ true → stores_at p o ≡ false
    → SameAt p h (heap_after_op h o)
skipped p (op.Stored q x) h is other = same_elsewhere p q h x other
skipped p o h is other = absurd (true≢false (sym is))

module _ (p : Place) (k l : Mark → Bool) where
  abbrev next : Bool → Op → Heap → Heap
  next b o h = if b then heap_after_op h o else h

  next_same : (m : Mark) → Agrees p k l m → (b c : Bool) → k m ≡ b → l m ≡ c → (h h' : Heap) → SameAt p h h'
      → SameAt p (next b m.op h) (next c m.op h')
  next_same m agrees true true x y h h' s = same_op p m.op h h' s
  next_same m agrees false false x y h h' s = s
  next_same m agrees true false x y h h' s =
      same_trans (same_sym (skipped p m.op h (stored x y) (other x y))) s
    where
      stored : k m ≡ true → l m ≡ false → is_store m.op ≡ true
      stored x y = elim (cases_Bool (is_store m.op)) [
        | inl is ↦ is
        | inr isnt ↦ absurd (true≢false (sym (agrees.sure isnt).1 ∙ y))
      ]

      other : k m ≡ true → l m ≡ false → stores_at p m.op ≡ false
      other x y = elim (cases_Bool (stores_at p m.op)) [
        | inl is ↦
            absurd (true≢false (sym x ∙ agrees.here is ∙ y))
        | inr isnt ↦ isnt
      ]
  next_same m agrees false true x y h h' s = same_trans s (skipped p m.op h' (stored x y) (other x y))
    where
      stored : k m ≡ false → l m ≡ true → is_store m.op ≡ true
      stored x y = elim (cases_Bool (is_store m.op)) [
        | inl is ↦ is
        | inr isnt ↦ absurd (true≢false (sym (agrees.sure isnt).0 ∙ x))
      ]

      other : k m ≡ false → l m ≡ true → stores_at p m.op ≡ false
      other x y = elim (cases_Bool (stores_at p m.op)) [
        | inl is ↦
            absurd (true≢false (sym y ∙ sym (agrees.here is) ∙ x))
        | inr isnt ↦ isnt
      ]

  after_next : (j : Mark → Bool) (m : Mark) (ms : List Mark) (h : Heap)
      → heap_after h (pick j (m ∷ ms)) ≡ heap_after (next (j m) m.op h) (pick j ms)
  after_next j m ms h = elim (j m) as (λ b. heap_after h
      (if b then m.op ∷ pick j ms else pick j ms) ≡ heap_after (next b m.op h) (pick j ms)) [
        | true ↦ refl
        | false ↦ refl
      ]

  -- the same is left at the place
  pub picked_same : (ms : List Mark) → AllByRecursion (λ m. Agrees p k l m) ms → (h h' : Heap) → SameAt p h h'
      → SameAt p (heap_after h (pick k ms)) (heap_after h' (pick l ms))
  picked_same [] all h h' s = s
  picked_same (m ∷ ms) all h h' s =
      rw (after_next k m ms h, after_next l m ms h')
      (picked_same ms all.1 (next (k m) m.op h) (next (l m) m.op h')
      (next_same m all.0 (k m) (l m) refl refl h h' s))

-- ---- by choices

-- the choices agree about a mark that stores at the place
abbrev pub ChoicesAgree : Place → (r s r' s' : ℕ → Bool) → Mark → Type 0
ChoicesAgree p r s r' s' m = stores_at p m.op ≡ true → survives r s m.fate ≡ survives r' s' m.fate

sure_survives : (r s : ℕ → Bool) (fate : Fate) → fate ≡ Sure → survives r s fate ≡ true
sure_survives r s fate is = rw is refl

all_agree : (p : Place) (r s r' s' : ℕ → Bool) (ms : List Mark) → AllByRecursion LosesStores ms
    → AllByRecursion (ChoicesAgree p r s r' s') ms
    → AllByRecursion (λ m. Agrees p (λ (n : Mark). survives r s n.fate)
    (λ (n : Mark). survives r' s' n.fate) m) ms
all_agree p r s r' s' [] lost agree = tt
all_agree p r s r' s' (m ∷ ms) lost agree = (
  record {
    here = agree.0;
    sure = λ isnt. (sure_survives r s m.fate (lost.0 isnt), sure_survives r' s' m.fate (lost.0 isnt));
  },
  all_agree p r s r' s' ms lost.1 agree.1,
)

pub left_same : (p : Place) (r s r' s' : ℕ → Bool) (ms : List Mark) → AllByRecursion LosesStores ms
    → AllByRecursion (ChoicesAgree p r s r' s') ms
    → (h : Heap) → SameAt p (left_heap h ms r s) (left_heap h ms r' s')
left_same p r s r' s' ms lost agree h =
    rw (kept-pick r s ms, kept-pick r' s' ms)
    (picked_same p (λ (n : Mark). survives r s n.fate) (λ (n : Mark). survives r' s' n.fate) ms
    (all_agree p r s r' s' ms lost agree) h h (same_refl p h))

-- the whole heap, and what is left by choices that keep all at the place
whole_agrees : (p : Place) (r s : ℕ → Bool) (ms : List Mark) → AllByRecursion LosesStores ms
    → AllByRecursion (λ (m : Mark). stores_at p m.op ≡ true → survives r s m.fate ≡ true) ms
    → AllByRecursion (λ m. Agrees p (λ (n : Mark). survives r s n.fate) (λ n. true) m) ms
whole_agrees p r s [] lost keeps = tt
whole_agrees p r s (m ∷ ms) lost keeps = (
  record { here = keeps.0; sure = λ isnt. (sure_survives r s m.fate (lost.0 isnt), refl) },
  whole_agrees p r s ms lost.1 keeps.1,
)

pub whole_same : (p : Place) (r s : ℕ → Bool) (ms : List Mark) → AllByRecursion LosesStores ms
    → AllByRecursion (λ (m : Mark). stores_at p m.op ≡ true → survives r s m.fate ≡ true) ms
    → (h : Heap) → SameAt p (left_heap h ms r s) (heap_after h (ops_of_marks ms))
whole_same p r s ms lost keeps h =
    rw (kept-pick r s ms, ops-pick ms)
    (picked_same p (λ (n : Mark). survives r s n.fate) (λ n. true) ms (whole_agrees p r s ms lost keeps) h h
    (same_refl p h))
