-- Which objects are durable after a history, and the world after it.
use Rattle.std.proofs.Common.{◌≡◌, ◌⊎◌, inl, inr, sym, ℕ, zero, suc, ◌<◌, Bool, true, false, List, [], ◌∷◌, ◌++◌, refl, ap, ◌∙◌}
use Rattle.std.proofs.Common.{nat_eq, ◌||◌, not, cond, if◌then◌else◌, arith, eq-eqb}
use Rattle.std.specs.Prelude.{All}
use Rattle.std.proofs.lemmas.Bool.{eqb-true, cases_lt}
use Rattle.std.proofs.lemmas.List.{append-nil}
use Rattle.std.proofs.lemmas.List.Elements.{All-nil, All-head, All-tail, All-push, All-weaker}
use Rattle.graph_model.specs.Heaps.{has_number}
use Rattle.run_history.specs.declared.act.Op.{Op}
use Rattle.run_history.specs.declared.act.Op.TheVariants as op
use Rattle.run_history.specs.Recorded.{Recorded}
use Rattle.run_history.specs.Worlds.{after}
use Rattle.run_history.specs.Knowing.{Knowledge, next_known, known_after, known_after_op, is_outermost, after_end}
use Rattle.plain_model.specs.First.{numbers_to}
use Rattle.plain_model.specs.Codes.{is_persistent}
use Rattle.plain_model.specs.Laws.{visible, world_after}
use Rattle.plain_model.proofs.Appended.{known_after-append}

or_true : (b : Bool) → (b || true) ≡ true
or_true true = refl
or_true false = refl

pub has_number-append_left : (xs ys : List ℕ) (n : ℕ) → has_number xs n ≡ true → has_number (xs ++ ys) n ≡ true
has_number-append_left [] ys n has = absurd (let no : false ≡ true = has in cc)
has_number-append_left (x ∷ xs) ys n has =
    elim (nat_eq x n) as (λ b. (b || has_number xs n) ≡ true → (b || has_number (xs ++ ys) n) ≡ true)
    [ true ↦ λ e. refl | false ↦ λ e. has_number-append_left xs ys n e ] has

pub has_number-append_cases : (xs ys : List ℕ) (n : ℕ) → has_number (xs ++ ys) n ≡ true
    → (has_number xs n ≡ true) ⊎ (has_number ys n ≡ true)
has_number-append_cases [] ys n has = inr has
has_number-append_cases (x ∷ xs) ys n has =
    elim (nat_eq x n) as (λ b. (b || has_number (xs ++ ys) n) ≡ true → ((b || has_number xs n) ≡ true) ⊎ (has_number ys n ≡ true))
    [ true ↦ λ e. inl refl | false ↦ λ e. has_number-append_cases xs ys n e ] has

-- a fact of each element holds of one that is there
pub All-has_number : (P : ℕ → Type 0) (xs : List ℕ) (n : ℕ) → All P xs → has_number xs n ≡ true → P n
All-has_number P [] n all has = absurd (let no : false ≡ true = has in cc)
All-has_number P (x ∷ xs) n all has =
    elim (nat_eq x n) as (λ b. nat_eq x n ≡ b → (b || has_number xs n) ≡ true → P n) [
      | true ↦ λ e h. rw (← eqb-true x n e) (All-head P x xs all)
      | false ↦ λ e h. All-has_number P xs n (All-tail P x xs all) h
    ] refl has

-- durable objects stay, by one operation and by many
durable_after_end : (known : Knowledge) (t : ℕ) (outermost : Bool) → (after_end known t outermost).durable ≡ known.durable
durable_after_end known t true = refl
durable_after_end known t false = refl

-- the objects that an operation makes durable
abbrev pub made_durable : Op → List ℕ → List ℕ
made_durable op.Joined named = named
made_durable o named = []

pub durable-known_after_op : (known : Knowledge) (t : ℕ) (named : List ℕ) (o : Op)
    → (known_after_op known t named o).durable ≡ known.durable ++ made_durable o named
unfolding known_after_op
durable-known_after_op known t named op.Joined = refl
durable-known_after_op known t named op.End = durable_after_end known t (is_outermost known t) ∙ sym (append-nil known.durable)
durable-known_after_op known t named o = sym (append-nil known.durable)

pub durable_stays : (known : Knowledge) (acts : List Recorded) (n : ℕ)
    → has_number known.durable n ≡ true → has_number (known_after known acts).durable n ≡ true
durable_stays known [] n has = has
durable_stays known (a ∷ acts) n has = durable_stays (next_known known a) acts n (
    rw (durable-known_after_op known a.act.thread a.named a.act.op)
    (has_number-append_left known.durable (made_durable a.act.op a.named) n has))

pub durable_stays_after : (known : Knowledge) (front rest : List Recorded) (n : ℕ)
    → has_number (known_after known front).durable n ≡ true → has_number (known_after known (front ++ rest)).durable n ≡ true
durable_stays_after known front rest n has = rw (known_after-append known front rest) (durable_stays (known_after known front) rest n has)

-- the world after one operation
world_after_end : (known : Knowledge) (t : ℕ) (outermost : Bool) → (after_end known t outermost).world ≡ after known.world t op.End
world_after_end known t true = refl
world_after_end known t false = refl

pub world-known_after_op : (known : Knowledge) (t : ℕ) (named : List ℕ) (o : Op)
    → (known_after_op known t named o).world ≡ (if is_persistent o then known.world else after known.world t o)
unfolding known_after_op
world-known_after_op known t named (op.Asked place value) = refl
world-known_after_op known t named op.Joined = refl
world-known_after_op known t named (op.Guarded place) = refl
world-known_after_op known t named op.Closing = refl
world-known_after_op known t named op.Fenced = refl
world-known_after_op known t named op.End = world_after_end known t (is_outermost known t)
world-known_after_op known t named o = refl

pub persistence_leaves_the_world : (known : Knowledge) (t : ℕ) (named : List ℕ) (o : Op) → is_persistent o ≡ true
    → (known_after_op known t named o).world ≡ known.world
persistence_leaves_the_world known t named o persistent = rw persistent at (world-known_after_op known t named o)

pub world_by_visible : (known : Knowledge) (acts : List Recorded) → (known_after known acts).world ≡ world_after known.world (visible acts)
world_by_visible known [] = refl
world_by_visible known (a ∷ acts) =
    world_by_visible (next_known known a) acts
    ∙ ap (λ world. world_after world (visible acts)) (world-known_after_op known a.act.thread a.named a.act.op)
    ∙ elim (is_persistent a.act.op) as (λ b. world_after (if b then known.world else after known.world a.act.thread a.act.op) (visible acts)
    ≡ world_after known.world (cond (not b) (a ∷ visible acts) (visible acts))) [ true ↦ refl | false ↦ refl ]

-- the first numbers are those below their count
pub numbers_to-below : (count : ℕ) → All (λ k. k < count) (numbers_to count)
numbers_to-below zero = All-nil (λ k. k < zero)
numbers_to-below (suc n) =
    All-push (λ k. k < suc n) (numbers_to n) n (All-weaker (λ k. k < n) (λ k. k < suc n) (λ k below. omega (arith, below)) (numbers_to n) (numbers_to-below n)) (omega arith)

pub below_from_has_number : (count n : ℕ) → has_number (numbers_to count) n ≡ true → n < count
below_from_has_number count n has = All-has_number (λ m. m < count) (numbers_to count) n (numbers_to-below count) has

has_number-push : (xs : List ℕ) (n : ℕ) → has_number (xs ++ n ∷ []) n ≡ true
has_number-push [] n = rw (eq-eqb n n refl) refl
has_number-push (x ∷ xs) n = rw (has_number-push xs n) (or_true (nat_eq x n))

pub has_number_from_below : (count n : ℕ) → n < count → has_number (numbers_to count) n ≡ true
has_number_from_below zero n below = absurd (omega (arith, below))
has_number_from_below (suc m) n below = elim (cases_lt n m) [
  | inl less ↦ has_number-append_left (numbers_to m) (m ∷ []) n (has_number_from_below m n less)
  | inr least ↦ let same : n ≡ m = omega (arith, least, below) in rw same (has_number-push (numbers_to m) m)
]
