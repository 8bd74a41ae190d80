-- Entries of many workers in one list, and a part for each.
use Rattle.std.specs.Prelude.{◌≡◌, ◌≢◌, ℕ, ◌==◌, List, ◌++◌, filter, length, All, slice_get}

-- the entries of one worker, in order
abbrev pub entries_by : {E : Type 0} → (E → ℕ) → ℕ → List E → List E
entries_by worker n es = filter (λ e. worker e == n) es

-- after is before with further entries behind it, all of this worker
pub record AddsBy {E : Type 0} (worker : E → ℕ) (n : ℕ) (before after : List E) : Type 0 where
  pub further : List E
  pub behind : before ++ further ≡ after
  pub own : All (λ e. worker e ≡ n) further

-- there are as many parts, and only this worker's may be another one
pub record SameButOf {P : Type 0} (n : ℕ) (before after : List P) : Type 0 where
  pub count : length after ≡ length before
  pub others : (k : ℕ) → k ≢ n → slice_get after k ≡ slice_get before k
