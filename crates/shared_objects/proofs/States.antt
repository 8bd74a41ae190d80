-- Threads by their numbers.
use Rattle.std.proofs.Common.{◌≡◌, ℕ, zero, suc, ◌<◌, true, false, List, [], ◌∷◌, length, get_or, set, drop, Some}
use Rattle.std.proofs.Common.{if◌then◌else◌, ap, ◌∙◌, sym, arith}
use Rattle.shared_objects.specs.declared.threads.ThreadState.{ThreadState}
use Rattle.shared_objects.specs.Threads.{is_of_object, started_from, depth_at, at_state}

pub state_set : (f : ThreadState → ThreadState) (ss : List ThreadState) (t : ℕ) (s : ThreadState)
    → t < length ss
    → s ≡ get_or ss t s → set ss t (f s) ≡ at_state f ss t
state_set f [] t s below is = absurd (omega (arith, below))
state_set f (x ∷ ss) zero s below is = ap (λ (y : ThreadState). f y ∷ ss) is
state_set f (x ∷ ss) (suc t) s below is = ap (λ (rest : List ThreadState). x ∷ rest) (state_set f ss t s
    (omega (arith, below)) is)

pub depth_got : (ss : List ThreadState) (t : ℕ) (s : ThreadState) → t < length ss → s ≡ get_or ss t s
    → s.depth ≡ depth_at ss t
depth_got [] t s below is = absurd (omega (arith, below))
depth_got (x ∷ ss) zero s below is = ap (λ (y : ThreadState). y.depth) is
depth_got (x ∷ ss) (suc t) s below is = depth_got ss t s (omega (arith, below)) is

-- the search goes on behind a thread
search_step : (ss : List ThreadState) (t i n : ℕ) (s : ThreadState) → i < length ss → s ≡ get_or ss i s
    → started_from t (drop i ss) n ≡ (if is_of_object n s.object then Some (t, s) else started_from (suc t)
    (drop (suc i) ss) n)
search_step [] t i n s below is = absurd (omega (arith, below))
search_step (x ∷ ss) t zero n s below is =
    ap (λ (y : ThreadState). if is_of_object n y.object then Some (t, y) else started_from (suc t) ss n) (sym
    is)
search_step (x ∷ ss) t (suc i) n s below is = search_step ss t i n s (omega (arith, below)) is

pub search_found : (ss : List ThreadState) (i n : ℕ) (s : ThreadState) → i < length ss → s ≡ get_or ss i s
    → started_from 0 ss n ≡ started_from i (drop i ss) n → is_of_object n s.object ≡ true
    → started_from 0 ss n ≡ Some (i, s)
search_found ss i n s below is so_far test =
    so_far ∙ search_step ss i i n s below is
    ∙ ap (λ b. if b then Some (i, s) else started_from (suc i) (drop (suc i) ss) n) test

pub search_on : (ss : List ThreadState) (i n : ℕ) (s : ThreadState) → i < length ss → s ≡ get_or ss i s
    → started_from 0 ss n ≡ started_from i (drop i ss) n → is_of_object n s.object ≡ false
    → started_from 0 ss n ≡ started_from (suc i) (drop (suc i) ss) n
search_on ss i n s below is so_far test =
    so_far ∙ search_step ss i i n s below is
    ∙ ap (λ b. if b then Some (i, s) else started_from (suc i) (drop (suc i) ss) n) test
