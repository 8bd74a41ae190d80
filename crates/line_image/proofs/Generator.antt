-- The generator of an outcome, and the words that it picks.
use Rattle.std.proofs.Common.{◌≡◌, ◌≢◌, ⊎_elim, ◌<◌, ◌+◌, ◌*◌, ◌/◌, ◌%◌, ◌^◌, ℕ, List, [], ◌∷◌, true, false, nat_eq, length}
use Rattle.std.proofs.Common.{get_or, reverse, slice_index, refl, ap, arith, add-one}
use Rattle.std.proofs.Math.Nat.{mod-add-mod, mod-one}
use Rattle.std.proofs.lemmas.Nat.{mod_below}
use Rattle.std.proofs.lemmas.Bool.{cases_eq}
use Rattle.std.proofs.lemmas.Bool.Decides.{nat_tests}
use Rattle.line_image.specs.Trace.{Trace, versions, newest}
use Rattle.line_image.specs.Crash.{next_state, state_after, choice, version_word, state_past, state_at, word_left}

-- the generator as the code computes it
pub next_state_lem : (s : ℕ) → (s * 6364136223846793005 % 2 ^ 64 + 1442695040888963407) % 2 ^ 64 ≡ next_state s
unfolding next_state
next_state_lem s = mod-add-mod (s * 6364136223846793005) (2 ^ 64) 1442695040888963407

pub state_after-zero : (s : ℕ) → state_after s 0 ≡ s
unfolding state_after
state_after-zero s = refl

pub state_after-one : (s n : ℕ) → state_after s (n + 1) ≡ next_state (state_after s n)
unfolding state_after
state_after-one s n = rw add-one refl

pub state_at-zero : (pick : ℕ) (h : Trace) → state_at pick h 0 ≡ pick
unfolding state_at
state_at-zero pick h = refl

pub state_at-one : (pick : ℕ) (h : Trace) (l : ℕ) → state_at pick h (l + 1) ≡ state_past (versions h l) (state_at pick h l)
unfolding state_at
state_at-one pick h l = rw add-one refl

pub word_left_lem : (pick : ℕ) (h : Trace) (l w : ℕ) → word_left pick h l w ≡ version_word (reverse (versions h l)) pick (state_at pick h l) w
unfolding word_left
word_left_lem pick h l w = refl

-- one version leaves no choice
pub choice-one : (pick count state : ℕ) → count ≡ 1 → choice pick count state ≡ 0
choice-one pick count state is = grind (arith, nat_tests, mod-one)

-- of a line with one version, that is left
pub version_word-one : (versions : List (List ℕ)) (pick state w : ℕ) → length versions ≡ 1 → version_word (reverse versions) pick state w ≡ slice_index (newest versions) w
version_word-one [] pick state w is = absurd (omega arith)
version_word-one (words ∷ []) pick state w is = ap (λ (n : ℕ). slice_index (get_or (words ∷ []) n []) w) (choice-one pick 1 (state_after state (w + 1)) refl)
version_word-one (words ∷ more ∷ rest) pick state w is = absurd (omega arith)

-- and the generator stands still
pub state_past-one : (versions : List (List ℕ)) (state : ℕ) → length versions ≡ 1 → state_past versions state ≡ state
state_past-one versions state is = grind (arith, nat_tests)

pub state_past-more : (versions : List (List ℕ)) (state : ℕ) → 1 < length versions → state_past versions state ≡ state_after state 8
state_past-more versions state is = grind (arith, nat_tests)

-- what the generator does at a word, and at a line
pub ruleset word_steps = (state_after-zero, state_after-one)

pub ruleset line_steps = (state_at-zero, state_at-one, word_left_lem, version_word-one, state_past-one, state_past-more)

-- the choice is one of the versions
pub choice-below : (pick count state : ℕ) → 0 < count → choice pick count state < count
choice-below pick count state some = ⊎_elim
    (λ (fenced : pick ≡ 0). let test : nat_eq pick 0 ≡ true = grind (arith, nat_tests) in rw test some)
    (λ (other : pick ≢ 0). let test : nat_eq pick 0 ≡ false = grind (arith, nat_tests) in rw test (⊎_elim
    (λ (latest : pick ≡ 1). let test' : nat_eq pick 1 ≡ true = grind (arith, nat_tests) in rw test' (omega arith))
    (λ (any : pick ≢ 1). let test' : nat_eq pick 1 ≡ false = grind (arith, nat_tests) in rw test' (mod_below (state / 2 ^ 33) count some))
    (cases_eq pick 1)))
    (cases_eq pick 0)
