-- The lines that are left.
use Rattle.std.specs.Prelude.{ℕ}

-- The first line that no object has taken, and the image's number of lines. None is left where the first isn't below the second.
pub record Lines : Type 0 where
  pub free : ℕ
  pub lines : ℕ
