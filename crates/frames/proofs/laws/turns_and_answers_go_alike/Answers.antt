use Rattle.frames.proofs.Turns as turns
use Rattle.frames.proofs.laws.turns_and_answers_go_alike.Goals as goal

pub returns : goal.returns
returns g c = λ f g' h a b k. turns.turns_and_answers_go_alike f g' h a b k
