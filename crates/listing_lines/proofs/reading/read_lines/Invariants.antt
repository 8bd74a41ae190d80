use Rattle.std.proofs.Common.{◌≡◌, ◌++◌, drop}
use Rattle.listing_lines.specs.Lines.{lines_from, listing_lines}
use Rattle.listing_lines.proofs.reading.read_lines.Given as goal

abbrev pub invariant-loop-b : goal.invariant-loop-b
invariant-loop-b l = l.lines.items ++ lines_from l.begun.items (drop l.b-index l.text) ≡ listing_lines l.text
