-- Lists of threads' states, and lists of numbers.
use Rattle.std.proofs.Common.{◌≡◌, ◌≢◌, inl, inr, ℕ, ◌<◌, Bool, true, false, ◌||◌, nat_eq, List, [], ◌∷◌, length, refl, sym}
use Rattle.std.proofs.Common.{subst, eq-eqb}
use Rattle.std.specs.Prelude.{All, slice_set, slice_index_or}
use Rattle.std.proofs.lemmas.List.{get_or-set_same, get_or-set_other}
use Rattle.std.proofs.lemmas.List.Elements.{All-nil, All-cons}
use Rattle.std.proofs.lemmas.Bool.{or_left}
use Rattle.std.proofs.Math.ListN.{get_or-eq_default}
use Rattle.std.proofs.lemmas.Bool.{cases_lt}
use Rattle.graph_model.specs.Heaps.{has_number}
use Rattle.twin_forms.proofs.Led.{same_or_not}

-- What holds of thread t's new state and of each other thread's state holds of all.
pub each-set : {X : Type 0} (P : ℕ → X → Type 0) (xs : List X) (t : ℕ) (x d : X) → t < length xs → P t x
    → ((u : ℕ) → u ≢ t → P u (slice_index_or xs u d)) → (u : ℕ) → P u (slice_index_or (slice_set xs t x) u d)
each-set P xs t x d within own others u = elim (same_or_not u t) [
  | inl same ↦ subst (λ k. P k (slice_index_or (slice_set xs t x) k d)) (sym same)
      (subst (P t) (sym (get_or-set_same xs t x d within)) own)
  | inr other ↦ subst (P u) (sym (get_or-set_other xs t u x d other)) (others u other)
]

-- a state that isn't the one of no thread is a thread's
pub set-within : {X : Type 0} (xs : List X) (t : ℕ) (d : X) → slice_index_or xs t d ≢ d → t < length xs
set-within xs t d ne = elim (cases_lt t (length xs)) [
  | inl lt ↦ lt
  | inr past ↦ absurd (ne (get_or-eq_default xs d past))
]

-- what holds of each number that is there holds of all
pub all-numbers : (P : ℕ → Type 0) (ns : List ℕ) → ((n : ℕ) → has_number ns n ≡ true → P n) → All P ns
all-numbers P [] each = All-nil P
all-numbers P (n ∷ ns) each = All-cons P n ns
    (each n (or_left (nat_eq n n) (has_number ns n) (eq-eqb n n refl)))
    (all-numbers P ns (λ m has. each m (or_right (nat_eq n m) (has_number ns m) has)))
  where
    or_right : (a b : Bool) → b ≡ true → (a || b) ≡ true
    or_right true b e = refl
    or_right false b e = e

pub not-true : (b : Bool) → (b ≡ true → ⊥) → b ≡ false
not-true true no_way = absurd (no_way refl)
not-true false no_way = refl
