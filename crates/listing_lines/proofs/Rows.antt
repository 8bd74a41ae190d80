-- The rows of the table of words.
use Rattle.std.proofs.Common.{ℕ, List, Bor}
use Rattle.listing_lines.specs.declared.mnemonics.Operands.{Operands}

abbrev pub Row : Type 0
Row = Bor (List ℕ) × ℕ × Operands

abbrev pub plain_row : Row → List ℕ × ℕ × Operands
plain_row row = (row.0.now, row.1, row.2)
