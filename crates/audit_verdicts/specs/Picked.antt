-- The kept list that a word picks.
use Rattle.std.specs.Prelude.{ℕ, Bool, List, ◌==◌}
use Rattle.std.specs.Int.{bit_at}
use Rattle.run_history.specs.declared.act.Op.{Op}
use Rattle.run_history.specs.Knowing.{Mark}
use Rattle.run_history.specs.Kept.{kept}

-- the word has bit t
abbrev pub has_bit : ℕ → ℕ → Bool
has_bit keep t = bit_at keep t == 1

-- the operations that are kept where the word has the bits of the threads whose unfenced store or closing region is kept
abbrev pub kept_by : ℕ → List Mark → List Op
kept_by keep marks = kept (has_bit keep) (has_bit keep) marks
