use Rattle.std.proofs.Common.{◌≡◌, length, false, []}
use Rattle.listing_lines.specs.Texts.{text_from}
use Rattle.listing_lines.proofs.texts.text_behind.Given as goal

abbrev pub invariant-bytes : goal.invariant-bytes
invariant-bytes l = text_from l.behind l.text.items l.rest ≡ text_from false [] l.bytes

abbrev pub decreases-bytes : goal.decreases-bytes
decreases-bytes l = length l.rest
