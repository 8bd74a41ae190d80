-- Whole turns and answers, by computation.
use Rattle.std.specs.Prelude.{refl}
use Rattle.frames.specs.Turns.{turn, answer}
use Rattle.frames.specs.CallRows.{AreWholeTurns, AreWholeAnswers, whole_turns, whole_answers}

pub whole_turns_are : AreWholeTurns whole_turns
unfolding turn
whole_turns_are = refl

pub whole_answers_are : AreWholeAnswers whole_answers
unfolding answer
whole_answers_are = refl
