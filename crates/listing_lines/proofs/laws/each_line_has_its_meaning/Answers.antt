use Rattle.listing_lines.proofs.LineRows.{plain_lines_are, instruction_lines_are}
use Rattle.listing_lines.proofs.laws.each_line_has_its_meaning.Goals as goal

pub returns-clause-plain : goal.returns-clause-plain
returns-clause-plain c = plain_lines_are

pub returns-clause-instructions : goal.returns-clause-instructions
returns-clause-instructions c = instruction_lines_are
