-- Sets of threads as numbers of 64 bits, and what threads need.
use Rattle.std.specs.Prelude.{◌≡◌, ℕ, ◌≤◌, ◌==◌, Bool, true, List, slice_index}
use Rattle.std.specs.Int.{bit_at}

-- the set has the thread
abbrev pub has : ℕ → ℕ → Bool
has set t = bit_at set t == 1

-- a thread needs another
abbrev pub needs_of : List ℕ → ℕ → ℕ → Bool
needs_of needs t u = has (slice_index needs t) u

-- The group of t: the least set that holds t, and with each member what that needs.
pub data InGroup (needs : ℕ → ℕ → Bool) (t : ℕ) : ℕ → Type 0 where
  itself : InGroup needs t t
  needed : (u w : ℕ) → InGroup needs t u → needs u w ≡ true → InGroup needs t w

-- with each member, what it needs
abbrev pub IsClosed : (ℕ → ℕ → Bool) → (ℕ → Bool) → Type 0
IsClosed needs set = (t u : ℕ) → set t ≡ true → needs t u ≡ true → set u ≡ true

-- the set is the group of t
pub record IsGroupOf (needs : List ℕ) (t set : ℕ) : Type 0 where
  pub member : has set t ≡ true
  pub least : (u : ℕ) → has set u ≡ true → InGroup (needs_of needs) t u
  pub closed : IsClosed (needs_of needs) (has set)

-- what grew by members that members need
pub record Adds (needs : List ℕ) (old new : ℕ) : Type 0 where
  pub more : old ≤ new
  pub keeps : (u : ℕ) → has old u ≡ true → has new u ≡ true
  pub sound : (t : ℕ) → ((u : ℕ) → has old u ≡ true → InGroup (needs_of needs) t u)
      → (u : ℕ) → has new u ≡ true → InGroup (needs_of needs) t u
