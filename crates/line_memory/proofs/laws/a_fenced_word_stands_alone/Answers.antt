use Rattle.line_memory.proofs.StopSets.{stands_alone}
use Rattle.line_memory.proofs.laws.a_fenced_word_stands_alone.Goals as goal

pub returns : goal.returns
returns c = stands_alone
