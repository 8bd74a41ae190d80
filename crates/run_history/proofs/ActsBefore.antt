-- The acts before an image call.
use Rattle.std.proofs.Common.{◌≡◌, ℕ, zero, suc, ◌<◌, ◌≤◌, Bool, true, false, List, [], ◌∷◌, ◌++◌, refl, ap, sym, cond, nat_lt}
use Rattle.std.proofs.Common.{arith}
use Rattle.std.specs.Prelude.{All, AllPairs}
use Rattle.std.proofs.lemmas.Bool.{ltb-false, le-ltb, lt-ltb}
use Rattle.std.proofs.lemmas.List.Elements.{All-nil, All-cons, All-head, All-tail, All-weaker}
use Rattle.run_history.specs.Recorded.{Recorded}
use Rattle.run_history.specs.Kept.{acts_before}

-- the number of finished calls doesn't fall from one act to a later one
abbrev pub NotLater : Recorded → Recorded → Type 0
NotLater a b = a.act.at ≤ b.act.at

abbrev pub From : ℕ → Recorded → Type 0
From m a = m ≤ a.act.at

abbrev pub Before : ℕ → Recorded → Type 0
Before m a = a.act.at < m

pairs-head : (a : Recorded) (acts : List Recorded) → AllPairs NotLater (a ∷ acts) → All (NotLater a) acts
pairs-head a acts pairs = λ k d below. pairs zero (suc k) d (omega arith) (omega (arith, below))

pairs-tail : (a : Recorded) (acts : List Recorded) → AllPairs NotLater (a ∷ acts) → AllPairs NotLater acts
pairs-tail a acts pairs = λ i j d order below. pairs (suc i) (suc j) d (omega (arith, order)) (omega (arith, below))

acts_before-none : (m : ℕ) (acts : List Recorded) → All (From m) acts → acts_before m acts ≡ []
acts_before-none m [] from = refl
acts_before-none m (a ∷ acts) from =
    let here = All-head (From m) a acts from in
    rw (le-ltb a.act.at m here) (acts_before-none m acts (All-tail (From m) a acts from))

pub acts_before-all : (m : ℕ) (acts : List Recorded) → All (Before m) acts → acts_before m acts ≡ acts
acts_before-all m [] before = refl
acts_before-all m (a ∷ acts) before =
    let here = All-head (Before m) a acts before in
    rw (lt-ltb a.act.at m here) (ap (λ xs. a ∷ xs) (acts_before-all m acts (All-tail (Before m) a acts before)))

-- the list begins with this front, and the rest is from call m on
abbrev pub BeginsWith : ℕ → List Recorded → List Recorded → Type 0
BeginsWith m acts front = (rest : List Recorded) × (acts ≡ front ++ rest) × All (From m) rest

pub acts_before-front : (m : ℕ) (acts : List Recorded) → AllPairs NotLater acts → BeginsWith m acts (acts_before m acts)
acts_before-front m [] pairs = ([], refl, All-nil (From m))
acts_before-front m (a ∷ acts) pairs =
    let Front : Bool → Type 0 = λ b. BeginsWith m (a ∷ acts) (cond b (a ∷ acts_before m acts) (acts_before m acts)) in
    elim (nat_lt a.act.at m) as (λ b. nat_lt a.act.at m ≡ b → Front b) [
      | true ↦ λ e.
          let (rest, is, from) = acts_before-front m acts (pairs-tail a acts pairs) in
          (rest, ap (λ xs. a ∷ xs) is, from)
      | false ↦ λ e.
          let here : m ≤ a.act.at = ltb-false a.act.at m e in
          let onward : (b : Recorded) → NotLater a b → From m b = λ b order. omega (arith, here, order) in
          let later : All (From m) acts = All-weaker (NotLater a) (From m) onward acts (pairs-head a acts pairs) in
          let none = ap (λ xs. xs ++ a ∷ acts) (sym (acts_before-none m acts later)) in
          (a ∷ acts, none, All-cons (From m) a acts here later)
    ] refl
