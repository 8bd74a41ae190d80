-- A space of words.
use Rattle.std.specs.Prelude.{ℕ, List}

-- The words that are taken, in their order, and how many are left.
pub record Space : Type 0 where
  pub words : List ℕ
  pub left : ℕ
