use Rattle.std.proofs.Common.{◌≡◌, map, length}
use Rattle.listing_lines.specs.Mnemonics.{row_of}
use Rattle.listing_lines.proofs.Rows.{plain_row}
use Rattle.listing_lines.proofs.mnemonics.row_of.Given as goal

abbrev pub invariant-rows : goal.invariant-rows
invariant-rows l = row_of (map plain_row l.rest) l.word ≡ row_of (map plain_row l.rows) l.word

abbrev pub decreases-rows : goal.decreases-rows
decreases-rows l = length l.rest
