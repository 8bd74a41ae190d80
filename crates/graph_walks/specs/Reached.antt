-- The vertices that a walk has reached so far.
use Rattle.std.specs.Prelude.{◌≡◌, ℕ, ◌<◌, Bool, List, length, nat_eq, slice_index_or, true, false}
use Rattle.std.specs.List.{IsDistinct, list_any}

-- the reached vertices in order, of so many
pub record Vertices : Type 0 where
  pub reached : List ℕ
  pub count : ℕ

abbrev pub has_vertex : List ℕ → ℕ → Bool
has_vertex reached v = list_any (nat_eq v) reached

-- Each of these vertices has its mark, and each is reached once.
pub record AreMarked (reached : List ℕ) (marks : List Bool) : Type 0 where
  pub once : IsDistinct nat_eq reached
  pub below : (v : ℕ) → has_vertex reached v ≡ true → v < length marks
  pub marked : (v : ℕ) → v < length marks → slice_index_or marks v false ≡ has_vertex reached v
