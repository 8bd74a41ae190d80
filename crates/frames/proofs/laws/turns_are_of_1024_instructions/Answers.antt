use Rattle.frames.proofs.Whole as whole
use Rattle.frames.proofs.laws.turns_are_of_1024_instructions.Goals as goal

pub returns-clause-turns : goal.returns-clause-turns
returns-clause-turns c = whole.whole_turns_are

pub returns-clause-answers : goal.returns-clause-answers
returns-clause-answers c = whole.whole_answers_are
