use Rattle.listing_lines.proofs.LineRows.{no_line, whole_line, cut_line}
use Rattle.listing_lines.proofs.laws.each_line_ends_in_a_new_line.Goals as goal

pub returns-clause-none : goal.returns-clause-none
returns-clause-none c = no_line

pub returns-clause-whole : goal.returns-clause-whole
returns-clause-whole c = whole_line

pub returns-clause-cut : goal.returns-clause-cut
returns-clause-cut c = cut_line
