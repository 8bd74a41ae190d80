use Rattle.listing_lines.proofs.LineRows.{wrong_lines_are}
use Rattle.listing_lines.proofs.laws.each_wrong_line_has_its_fault.Goals as goal

pub returns : goal.returns
returns c = wrong_lines_are
