use Rattle.two_spaces.proofs.Moved.{lines_behind, moves_follow, one_line}
use Rattle.two_spaces.proofs.laws.moves_follow_one_another.Goals as goal

pub returns-clause-lines : goal.returns-clause-lines
returns-clause-lines c = lines_behind

pub returns-clause-one_line : goal.returns-clause-one_line
returns-clause-one_line c = one_line

pub returns-clause-twice : goal.returns-clause-twice
returns-clause-twice c = moves_follow
